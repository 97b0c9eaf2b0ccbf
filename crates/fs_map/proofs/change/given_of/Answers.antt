use Rattle.std.proofs.Common.{◌∙◌, ◌≡◌, ◌+◌, ◌∷◌, [], ◌++◌, ap, rules, drop, arith}
use Rattle.fs_map.proofs.Changing.{next_item, passed_all, piece_begun, piece_order, piece_kept, piece_listed, piece_ended}
use Rattle.fs_map.proofs.Owned.{piece_is}
use Rattle.fs_map.proofs.change.given_of.Goals as goal
use Rattle.fs_map.proofs.change.given_of.Goals.{in-Some+in_ok-copy-2+in_ok-push-2, in_default}

pub loop-place-init : goal.loop-place-init
loop-place-init c = record { listed = piece_begun c.args.owners.now c.args.me c.args.prefix.now _ _ c.requires.mine c.requires.part (search rules); order = c.requires.part.order }

pub loop-place-preserved : goal.loop-place-preserved
loop-place-preserved c =
    let here : drop c.loop-place.place-index c.args.part.now ≡ c.loop-place-item.result ∷ drop (c.loop-place.place-index + 1) c.args.part.now =
    next_item c.args.part.now c.loop-place.place-index c.loop-place-item.result (omega arith) c.loop-place-item.is in
    let order = piece_order c.args.owners.now c.args.me c.args.prefix.now c.loop-place.given _ _ _ c.loop-place.invariant.listed c.loop-place.invariant.order here in
    elim c.match-turned_given.branch [
      | in-Some+in_ok-copy-2+in_ok-push-2 w ↦ record {
        listed = piece_listed c.args.owners.now c.args.me c.args.prefix.now c.loop-place.given _ _ _ c.loop-place.invariant.listed c.loop-place.invariant.order here w.in-Some.turned _ (search rules) (w.given-is ∙ w.in_ok-push-2.ensures.ok ∙ ap (λ k. c.loop-place.given ++ (k, w.in-Some.turned) ∷ []) w.in_ok-copy-2.ensures);
        order = order;
      }
      | in_default w ↦ record {
        listed = piece_kept c.args.owners.now c.args.me c.args.prefix.now c.loop-place.given _ _ _ c.loop-place.invariant.listed c.loop-place.invariant.order here _ w.given-is (search rules);
        order = order;
      }
    ]

pub returns : goal.returns
returns c =
    piece_is c.args.owners.now c.args.me c.args.prefix.now _ c.requires.mine
    (piece_ended c.args.owners.now c.args.me c.args.prefix.now _ _ c.loop-place.invariant.listed (passed_all c.args.part.now c.loop-place.place-index (omega arith)))
