-- What a read gives, of the file that is open or of one that is opened.
use Rattle.std.proofs.Common.{◌≡◌, ℕ, ◌==◌, ◌&&◌, Bool, cond, List, Option, Some, None, inl, inr, sym, ◌∙◌, ap, subst}
use Rattle.std.proofs.lemmas.Bool.{cases_Bool}
use Rattle.std.proofs.lemmas.Bool.Decides.{Decides-and, Decides-eqb}
use Rattle.strip_io.specs.Disk.{standing}
use Rattle.strip_io.specs.Streams.{GaveFrom, StandsAt, WentOn}
use Rattle.strip_io.specs.declared.open_file.OpenFile.{OpenFile}

-- where a read goes on, the file stands at its place
pub stands_there : {F : Type 0} (entry at : ℕ) (current : Option (OpenFile F)) (file : OpenFile F) → standing entry at current ≡ Some file → file.at ≡ at
stands_there entry at None file is = cc
stands_there entry at (Some it) file is = elim (cases_Bool ((it.entry == entry) && (it.at == at))) [
  | inl both ↦
      let there = (Decides-and (it.entry == entry) (it.at == at) (Decides-eqb it.entry entry) (Decides-eqb it.at at)).0 both in
      let same : Some it ≡ Some file = subst (λ (b : Bool). cond b (Some it) None ≡ Some file) both is in
      let one : it ≡ file = cc in
      ap (λ (f : OpenFile _). f.at) (sym one) ∙ there.1
  | inr other ↦ absurd (let e : None ≡ Some file = subst (λ (b : Bool). cond b (Some it) None ≡ Some file) other is in cc)
]

module _ {F : Type 0} (held : F → Option (List ℕ)) (place : F → Option ℕ) (left : F → Option (List ℕ)) (found : Option (OpenFile F)) (file : OpenFile F) (at n : ℕ)
    (into : List ℕ) (after : F) (there : file.at ≡ at) (read : WentOn left file.file file.at n into after) where
  pub gave_on : found ≡ Some file → GaveFrom held place left found at n into after
  gave_on is = subst (λ f. GaveFrom held place left f at n into after) (sym is) (subst (λ (k : ℕ). WentOn left file.file k n into after) there read)

  pub gave_anew : found ≡ None → StandsAt held place left at file.file → GaveFrom held place left found at n into after
  gave_anew is stands = subst (λ f. GaveFrom held place left f at n into after) (sym is)
      (file.file, stands, subst (λ (k : ℕ). WentOn left file.file k n into after) there read)
