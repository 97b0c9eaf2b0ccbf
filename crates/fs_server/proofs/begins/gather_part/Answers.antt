use Rattle.std.proofs.Common.{sym, ◌∙◌}
use Rattle.std.proofs.lemmas.Result.{on_ok_weaker}
use Rattle.fs_server.proofs.Gathering.{own_pushed}
use Rattle.fs_server.specs.declared.begins.Gathered.{Gathered}
use Rattle.fs_server.proofs.begins.gather_part.Goals as goal

pub returns-in_ok-push : goal.returns-in_ok-push
returns-in_ok-push c =
    let new : Gathered = record {
      votes = c.push.new.self;
      at = c.push-then-is_mine.new.self;
      uses = c.uses_kept.new.uses;
      files = c.files_kept.new.files;
      send = c.add_recalls.new.send;
    } in
    on_ok_weaker c.push-then-is_mine.result
    (λ at. own_pushed c.args.gathered.now new c.args.txn c.args.number c.args.by c.args.part.now c.args.at.now c.in_ok-vote.vote
    c.me.result (sym c.is_mine.ensures ∙ c.if-is_mine.true) c.in_ok-vote.ensures c.me.ensures c.in_ok-push.ensures.ok at
    c.in_ok-uses_kept.ensures c.in_ok-files_kept.ensures c.in_ok-add_recalls.ensures)
    c.push-then-is_mine.ensures.ok
