use Rattle.std.proofs.Common.{◌≡◌, ◌++◌, ℕ, List, ap, ap₂, ◌∙◌, subst}
use Rattle.std.specs.Prelude.{IfOk}
use Rattle.fs_ident.specs.declared.actor.Peer.{Peer}
use Rattle.fs_field.specs.declared.used.Use.{Use}
use Rattle.fs_field.specs.declared.vote.Vote.{Vote}
use Rattle.fs_msg.specs.declared.msg.Msg.{Msg}
use Rattle.fs_txn.specs.declared.leading.Leading.{Leading}
use Rattle.fs_server.specs.Counts.{asked_at, counts_own}
use Rattle.fs_server.specs.Decided.{stepped_by}
use Rattle.fs_server.specs.Follows.{recalls_for}
use Rattle.fs_server.specs.Gathered.{files_voted, uses_voted}
use Rattle.fs_server.specs.Server.{Stepped}
use Rattle.fs_server.proofs.Counting.{own_on, own_so}
use Rattle.fs_server.proofs.counts.counts_own.Goals as goal

pub goes_on-requires-clause-can : goal.goes_on-requires-clause-can
goes_on-requires-clause-can c =
    own_on c.args.number c.in_ok-vote.vote c.args.l.now c.ask.new.self c.args.at.now c.requires.whole
    (c.ask.ensures ∙ ap₂ (λ (z : Leading) (me : ℕ). asked_at c.args.number me z) c.in_ok-leading.ensures c.me.ensures)

pub returns-clause-step : goal.returns-clause-step
returns-clause-step c =
    let vote : Vote = c.in_ok-vote.vote in
    subst (λ (y : Stepped). IfOk c.goes_on.result (λ d. stepped_by d c.args.at.now ≡ y))
    (own_so c.args.number c.args.part.now vote c.args.l.now c.ask.new.self c.uses_kept.new.uses c.files_kept.new.files c.add_recalls.new.send c.args.at.now
    (c.ask.ensures ∙ ap₂ (λ (z : Leading) (me : ℕ). asked_at c.args.number me z) c.in_ok-leading.ensures c.me.ensures)
    (c.in_ok-uses_kept.ensures ∙ ap (λ (us : List Use). us ++ uses_voted vote c.args.part.now.uses) c.new-uses.ensures)
    (c.in_ok-files_kept.ensures ∙ ap (λ (fs : List (List ℕ)). fs ++ files_voted vote c.args.part.now.freeze) c.new-files.ensures)
    (c.in_ok-add_recalls.ensures
    ∙ ap (λ (ms : List (Peer × Msg)). ms ++ recalls_for vote c.args.at.now c.args.part.now) c.new-send.ensures)
    ∙ ap (λ (v : Vote). counts_own c.args.number c.args.part.now v c.args.l.now c.args.at.now) c.in_ok-vote.ensures)
    c.goes_on.ensures.step
