use Rattle.std.proofs.Common.{sym, subst, take, ◌∙◌, ap, ◌≡◌, get_or, ◌++◌, ◌∷◌, [], List, ℕ}
use Rattle.std.proofs.lemmas.List.{take_more}
use Rattle.fs_turns.specs.Run.{Due, IsSent}
use Rattle.fs_turns.proofs.Turns.{sent_more}
use Rattle.fs_turns.proofs.sending.send_all.Goals as goal

pub loop-to-preserved : goal.loop-to-preserved
loop-to-preserved g c =
    let i = c.loop-to.to-index in
    let d : Due = (c.loop-to-item.result.0, c.as_slice.result.now) in
    let is : d ≡ get_or c.args.due.now i c.loop-to-item.result = ap (λ (bytes : List ℕ). let e : Due = (c.loop-to-item.result.0, bytes) in e) c.as_slice.ensures ∙ c.loop-to-item.is in
    let more = take_more c.args.due.now i c.loop-to-item.result c.loop-to-test.true ∙ ap (λ (e : Due). take i c.args.due.now ++ e ∷ []) (sym is) in
    subst (λ ds. IsSent ds c.args.faults.now c.send_one.new.faults (g.L.Link.calls c.args.link.now) (g.L.Link.calls c.send_one.new.link)) (sym more) (sent_more _ _ _ _ _ _ _ _ c.loop-to.invariant c.send_one.ensures)
