-- The texts of errors.
use Rattle.std.specs.Prelude.{ℕ, List, ◌++◌, codes}
use Rattle.std.specs.Fmt.{decimal}
use Rattle.fs_io.specs.declared.reading.ReadError.{ReadError}
use Rattle.fs_io.specs.declared.reading.ReadError.TheVariants.{ReadFault, TooLong, Memory}

abbrev pub error_text : ReadError → List ℕ
error_text ReadFault = codes "the input failed"
error_text (TooLong limit) = codes "the input has more than " ++ decimal limit ++ codes " bytes"
error_text Memory = codes "memory is wanting"
