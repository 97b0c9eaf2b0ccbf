use Rattle.std.proofs.Common.{true, subst, ◌≡◌}
use Rattle.fs_ident.proofs.Put.{put_at}
use Rattle.fs_path.specs.Kept.{AreKept, are_in_order, txn_before, txn_of}
use Rattle.fs_path.specs.Tables.{with_frozen}
use Rattle.fs_path.proofs.Frozen.{kept_ordered, kept_put}
use Rattle.fs_path.proofs.kept.put_frozen.Goals as goal

pub note-requires : goal.note-requires
note-requires c w = let q = c.requires.kept w in kept_ordered c.args.kept.now.files c.args.frozen.now.items q.0 q.1

pub returns-clause-items : goal.returns-clause-items
returns-clause-items c =
    let there = put_at (λ x. txn_before c.args.txn (txn_of x)) (c.args.file, c.args.txn) c.args.frozen.now.items in
    cc (c.in-Ok.ensures.items, c.frozen_place-at.ensures.place, c.deref.ensures.value, there)

pub returns-clause-kept : goal.returns-clause-kept
returns-clause-kept c w =
    let n = c.note.ensures w in
    let q = c.requires.kept n.0 in
    let there = put_at (λ x. txn_before c.args.txn (txn_of x)) (c.args.file, c.args.txn) c.args.frozen.now.items in
    let put : with_frozen c.args.file c.args.txn c.args.frozen.now.items ≡ c.insert.new.self.items = cc (c.in-Ok.ensures.items, c.frozen_place-at.ensures.place, c.deref.ensures.value, there) in
    subst (λ xs. (are_in_order txn_of xs ≡ true) × AreKept c.note.new.self.files xs) put (kept_put c.args.file c.args.txn c.args.frozen.now.items c.args.kept.now.files c.note.new.self.files q.0 q.1 n.1)
