use Rattle.std.proofs.Common.{◌∙◌, ap, rules}
use Rattle.fs_ident.specs.Ordered.{are_keys_in_order}
use Rattle.fs_map.proofs.Changing.{change_begun, change_kept, change_listed, change_ended}
use Rattle.fs_map.proofs.Owned.{part_is}
use Rattle.fs_map.proofs.change.part_after.Goals as goal

pub loop-place-init : goal.loop-place-init
loop-place-init c = record {
  listed = change_begun c.args.owners.now c.args.to c.args.piece.now.prefix c.args.piece.now.given _ _ _ c.requires.piece c.requires.part (search rules) c.as_slice-new.ensures;
  old = c.requires.part.order;
  new = ap are_keys_in_order c.as_slice-new.ensures ∙ c.requires.piece.ordered;
}

pub loop-place-preserved-in_ok-push-2 : goal.loop-place-preserved-in_ok-push-2
loop-place-preserved-in_ok-push-2 c = record {
  listed = change_listed c.args.owners.now c.args.to c.args.piece.now.prefix c.args.piece.now.given _ _ _ _ _ _ c.loop-place.invariant.listed c.in-Some.ensures.next c.in-Some-turned_server.server _ (search rules) (search rules);
  old = c.in-Some.ensures.next.old_order;
  new = c.in-Some.ensures.next.new_order;
}

pub loop-place-preserved : goal.loop-place-preserved
loop-place-preserved c = record {
  listed = change_kept c.args.owners.now c.args.to c.args.piece.now.prefix c.args.piece.now.given _ _ _ _ _ _ c.loop-place.invariant.listed c.in-Some.ensures.next (search rules);
  old = c.in-Some.ensures.next.old_order;
  new = c.in-Some.ensures.next.new_order;
}

pub returns : goal.returns
returns c =
    part_is c.args.owners.now c.args.to c.args.piece.now.prefix c.args.piece.now.given _ c.requires.piece
    (change_ended c.args.owners.now c.args.to c.args.piece.now.prefix c.args.piece.now.given _ _ _ c.loop-place.invariant.listed (search rules) (search rules))
