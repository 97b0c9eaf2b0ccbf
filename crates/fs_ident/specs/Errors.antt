-- The texts of errors.
use Rattle.std.specs.Prelude.{ℕ, List, ◌++◌, codes}
use Rattle.std.specs.Fmt.{decimal}
use Rattle.fs_ident.specs.declared.error.IdError.{IdError}
use Rattle.fs_ident.specs.declared.error.IdError.TheVariants.{Deep, Zero, BadBits, BadText, BadName, Memory}

abbrev pub error_text : IdError → List ℕ
error_text Deep = codes "the identifier has 32 numbers already"
error_text Zero = codes "a number of an identifier is at least 1"
error_text (BadBits at) = codes "no identifier is packed like this from bit " ++ decimal at ++ codes " on"
error_text (BadText at) = codes "no identifier is written like this from byte " ++ decimal at ++ codes " on"
error_text (BadName at) = codes "no name is written like this from byte " ++ decimal at ++ codes " on"
error_text Memory = codes "memory is wanting"
