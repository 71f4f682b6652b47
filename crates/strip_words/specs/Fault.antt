-- What a fault of words says.
use Rattle.std.specs.Prelude.{ℕ, List, codes}
use Rattle.strip_words.specs.declared.fault.WordsFault.{WordsFault}
use Rattle.strip_words.specs.declared.fault.WordsFault.TheVariants.{BadWords, Memory}

abbrev pub fault_text : WordsFault → List ℕ
fault_text BadWords = codes "the words name no job"
fault_text Memory = codes "out of memory"
