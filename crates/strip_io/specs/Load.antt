-- Why a file wasn't loaded, in words.
use Rattle.std.specs.Prelude.{ℕ, List, codes}
use Rattle.strip_io.specs.declared.transfer.LoadFault.{LoadFault}
use Rattle.strip_io.specs.declared.transfer.LoadFault.TheVariants.{Read, TooLong, Memory}

-- the text of a fault
abbrev pub fault_text : LoadFault → List ℕ
fault_text Read = codes "a file couldn't be read"
fault_text TooLong = codes "a file is too long"
fault_text Memory = codes "out of memory"
