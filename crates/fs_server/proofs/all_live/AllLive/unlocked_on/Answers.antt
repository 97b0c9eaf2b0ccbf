use Rattle.std.proofs.Common.{◌≡◌, List, sym, ◌∙◌, subst}
use Rattle.std.specs.Prelude.{IfOk}
use Rattle.fs_ident.specs.declared.actor.LeaseNo.{LeaseNo}
use Rattle.fs_ident.specs.declared.actor.Session.{Session}
use Rattle.fs_rows.specs.Live.{unlocked_on}
use Rattle.fs_server.specs.Rows.{in_one_list}
use Rattle.fs_parcel.proofs.Both.{told_plain, told_modes}
use Rattle.fs_server.proofs.Parts.{unlocked_off, unlocked_on_modes}
use Rattle.fs_server.proofs.all_live.AllLive.unlocked_on.Goals as goal

pub returns-then-tells_no_mode : goal.returns-then-tells_no_mode
returns-then-tells_no_mode c =
    let plain = c.self.inside.plain in
    let modes = c.self.inside.modes in
    let all = told_plain (unlocked_on c.args.field.now) plain modes c.self.invariant (unlocked_off (in_one_list plain modes) c.args.field.now (sym c.tells_no_mode.ensures ∙ c.if-tells_no_mode.true)) in
    rw (← c.self.view_is) (subst (λ (x : List (LeaseNo × Session)). IfOk c.unlocked_on.result (λ told. told ≡ x)) all c.unlocked_on.ensures)

pub returns-else-tells_no_mode : goal.returns-else-tells_no_mode
returns-else-tells_no_mode c =
    let plain = c.self.inside.plain in
    let modes = c.self.inside.modes in
    let all = told_modes (unlocked_on c.args.field.now) plain modes c.self.invariant (unlocked_on_modes (in_one_list plain modes) c.args.field.now (sym c.tells_no_mode.ensures ∙ c.if-tells_no_mode.false)) in
    rw (← c.self.view_is) (subst (λ (x : List (LeaseNo × Session)). IfOk c.unlocked_on-else-tells_no_mode.result (λ told. told ≡ x)) all c.unlocked_on-else-tells_no_mode.ensures)
