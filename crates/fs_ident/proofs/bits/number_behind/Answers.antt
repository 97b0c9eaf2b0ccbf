use Rattle.std.proofs.Common.{rules, drop, refl, sym, ◌∙◌, ap}
use Rattle.fs_ident.specs.Packed.{bits_of}
use Rattle.std.proofs.lemmas.List.{drop-drop}
use Rattle.fs_ident.specs.Bits.{front}
use Rattle.fs_ident.proofs.Words.{code_begins}
use Rattle.fs_ident.proofs.bits.number_behind.Goals as goal

pub returns : goal.returns
returns c =
    code_begins (drop c.args.at (bits_of c.args.bytes.now)) c.args.zeros c.word_at.result _ c.requires.few c.requires.begins (search rules)
    (c.word_at.ensures ∙ ap (front 32) (sym (drop-drop c.args.zeros c.args.at (bits_of c.args.bytes.now)))) refl
