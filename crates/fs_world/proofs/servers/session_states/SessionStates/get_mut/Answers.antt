use Rattle.std.proofs.Common.{sym, ◌∙◌}
use Rattle.fs_ident.proofs.MapsOf.{numbered_get}
use Rattle.fs_ident.proofs.NumberedMaps.{numbered_lent}
use Rattle.fs_world.proofs.servers.session_states.SessionStates.get_mut.Goals as goal

pub returns : goal.returns
returns c =
    let m = c.self.inside.sessions in
    let f = c.get_mut.follows in
    rw (← c.self.view_is) (
      numbered_lent m c.args.s.0 c.get_mut.result f.lender f.lender-at-none c.get_mut.ensures.value (λ w. (f.holds w).0) f.holds-at-none,
      record { lends = tt; value = c.get_mut.ensures.value ∙ sym (numbered_get m c.args.s.0) },
    )
