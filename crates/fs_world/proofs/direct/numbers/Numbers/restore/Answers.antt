use Rattle.std.proofs.Common.{◌≡◌, ap, refl, sym, ◌∙◌, subst}
use Rattle.std.specs.Prelude.{Some, IsSome}
use Rattle.std.specs.FinMap.{get, insert}
use Rattle.fs_ident.specs.Maps.{map_of}
use Rattle.fs_world.specs.Direct.{Numbers}
use Rattle.fs_ident.proofs.MapsOf.{put_back, put_here}
use Rattle.fs_world.proofs.direct.numbers.Numbers.restore.Goals as goal

pub returns-in-Some : goal.returns-in-Some
returns-in-Some c = λ numbers n e b.
    let dir = c.args.dir.now in
    let now : map_of c.self.inside.next ≡ insert numbers dir n = c.self.view_is ∙ e in
    let here : Some n ≡ get (map_of c.self.inside.next) dir = sym (ap (λ (m : Numbers). get m dir) now ∙ put_here numbers dir n) in
    c.raise_in.ensures (subst IsSome here refl) ∙ ap (λ (m : Numbers). insert m dir c.in-Some.number) now
    ∙ put_back numbers dir n c.in-Some.number (sym b ∙ c.in-Some.is)
