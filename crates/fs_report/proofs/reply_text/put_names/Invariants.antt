use Rattle.std.proofs.Common.{◌≡◌, ◌∷◌, ◌++◌, take}
use Rattle.std.specs.Prelude.{flat_map}
use Rattle.std.specs.Str.{IsUtf8}
use Rattle.fs_ident.specs.Texts.{quoted}
use Rattle.fs_report.proofs.reply_text.put_names.Given as goal

abbrev pub invariant-loop-name : goal.invariant-loop-name
invariant-loop-name l = (l.out.items ≡ l.initial.out.items ++ flat_map (λ name. 32 ∷ quoted name) (take l.name-index l.names)) × (IsUtf8 l.initial.out.items → IsUtf8 l.out.items)
