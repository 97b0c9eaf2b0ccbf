use Rattle.fs_ident.proofs.Put.{put_at}
use Rattle.fs_path.specs.Leases.{path_before}
use Rattle.fs_path.proofs.index.put_name.Goals as goal

pub returns : goal.returns
returns c =
    let there = put_at (λ n. path_before c.args.name.1 n.1) c.args.name c.args.names.now.items in
    cc (c.in_ok-insert.ensures.items, c.place_behind-at.ensures.place, c.deref.ensures.value, there)
