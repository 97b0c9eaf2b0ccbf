use Rattle.std.proofs.Common.{◌≡◌, ap, ap₂, sym, ◌∙◌}
use Rattle.std.specs.Prelude.{None, not, ◌==◌}
use Rattle.std.specs.List.{filter}
use Rattle.fs_ident.specs.declared.actor.Session.{Session}
use Rattle.fs_modes.specs.declared.modes.Modes.{Modes}
use Rattle.fs_moderows.specs.Answer.{reap_blocker}
use Rattle.fs_record.specs.Applied.{records_after_all}
use Rattle.fs_record.specs.ValueOf.{selves_in}
use Rattle.fs_server.specs.Lost.{reaping_by}
use Rattle.fs_server.proofs.Losing.{lost_is, lost_more, more_by, more_selves}
use Rattle.fs_server.proofs.reaps.lose.Goals as goal

pub returns-in_ok-reap-in-None-clause-lost : goal.returns-in_ok-reap-in-None-clause-lost
returns-in_ok-reap-in-None-clause-lost c =
    let none : reap_blocker (selves_in (reaping_by c.args.lost.now c.args.at.now).server.records c.args.file.now) c.args.at.now.rows c.args.session c.args.file.now ≡ None =
    sym (c.in-None.ensures ∙ ap₂ (λ selves rows. reap_blocker selves rows c.args.session c.args.file.now) c.requires.selves c.rows.ensures) in
    let is : c.reap.new.lost ≡ lost_more c.args.at.now c.args.lost.now c.args.file.now c.args.session = lost_is _ _ _ _ c.in_ok-reap-in-None.ensures.effects c.in_ok-reap-in-None.ensures.admitted c.in_ok-reap-in-None.ensures.blockers in
    ap (λ l. reaping_by l c.args.at.now) is ∙ more_by c.args.at.now c.args.lost.now c.args.file.now c.args.session c.requires.still none

pub returns-in_ok-reap-in-None-clause-selves : goal.returns-in_ok-reap-in-None-clause-selves
returns-in_ok-reap-in-None-clause-selves c =
    c.retain_others.ensures
    ∙ ap (filter (λ (e : Session × Modes). not (e.0.0 == c.args.session.0))) (c.items_mut.ensures.value ∙ c.requires.selves)
    ∙ more_selves c.args.at.now c.args.lost.now c.args.file.now c.args.session c.requires.valid c.requires.still
    ∙ ap (λ effects. selves_in (records_after_all c.args.at.now.records effects) c.args.file.now) (sym c.in_ok-reap-in-None.ensures.effects)
