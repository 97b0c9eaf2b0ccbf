-- How fields are written.
use Rattle.std.specs.Prelude.{ℕ, List, ◌++◌, codes}
use Rattle.fs_ident.specs.IdText.{id_text}
use Rattle.fs_ident.specs.Texts.{quoted}
use Rattle.fs_modes.specs.Letters.{mode_text}
use Rattle.fs_field.specs.declared.field.Field.{Field}
use Rattle.fs_field.specs.declared.field.Field.TheVariants.{Life, Child, Names, Info, Own, SelfW, Other}

-- a word for what it is, then the file, then the name in double quotes or the letters of the mode
abbrev pub field_text : Field → List ℕ
field_text (Life f) = codes "life " ++ id_text f
field_text (Child d n) = codes "child " ++ (id_text d ++ (codes " " ++ quoted n))
field_text (Names d) = codes "names " ++ id_text d
field_text (Info f) = codes "info " ++ id_text f
field_text (Own f) = codes "own " ++ id_text f
field_text (SelfW f m) = codes "self " ++ (id_text f ++ (codes " " ++ mode_text m))
field_text (Other f m) = codes "other " ++ (id_text f ++ (codes " " ++ mode_text m))
