use Rattle.fs_window.proofs.links.add_due.Goals as goal

pub add_places-requires : goal.add_places-requires
add_places-requires c = rw c.as_slice-places.ensures (c.wants_all.ensures c.args.me c.if-wants_all.false)
