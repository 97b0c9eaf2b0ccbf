use Rattle.std.proofs.Common.{sym, ◌∙◌}
use Rattle.fs_path.specs.Index.{is_numbered, no_of_named}
use Rattle.fs_path.proofs.Rising.{at_number, gone_there, none_go, placed_any}
use Rattle.fs_path.proofs.index.take_name.Goals as goal

pub returns-in-Some : goal.returns-in-Some
returns-in-Some c =
    let there = at_number (is_numbered no_of_named c.args.no) c.args.names.now.items c.in-Some.at c.remove.result (rw c.deref.ensures.value at c.in-Some.ensures) in
    c.remove.ensures.items ∙ gone_there no_of_named c.args.no c.args.names.now.items c.in-Some.at c.remove.result c.requires there.0 there.1

pub returns-in-None : goal.returns-in-None
returns-in-None c = sym (none_go no_of_named c.args.no c.args.names.now.items (sym (placed_any (is_numbered no_of_named c.args.no) c.args.names.now.items _ (rw c.deref.ensures.value at c.in-None.ensures))))
