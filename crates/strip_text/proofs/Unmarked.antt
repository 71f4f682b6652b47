-- Texts that begin with no byte-order mark.
use Rattle.std.proofs.Common.{◌≡◌, ◌==◌, ℕ, false, List, [], ◌∷◌, refl}
use Rattle.csv.specs.Reading.{strip_bom}

-- a text whose first byte isn't the mark's has none
pub unmarked-byte : (byte : ℕ) (bytes : List ℕ) → (byte == 0xEF) ≡ false → strip_bom (byte ∷ bytes) ≡ byte ∷ bytes
unfolding strip_bom
unmarked-byte byte [] other = refl
unmarked-byte byte (a ∷ []) other = refl
unmarked-byte byte (a ∷ b ∷ rest) other = rw other refl
