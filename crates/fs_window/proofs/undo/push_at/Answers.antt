use Rattle.fs_window.specs.declared.link.Link.{Link}
use Rattle.fs_window.specs.Post.{link_pushed}
use Rattle.fs_window.proofs.Places.{same_at, changed_at}
use Rattle.fs_window.proofs.undo.push_at.Goals as goal

pub returns-clause-ok : goal.returns-clause-ok
returns-clause-ok c = λ new. changed_at c.push_with_undo.result c.args.links.now c.args.to c.args.at c.at_mut-entry.result.now c.push_with_undo.new.self (λ (l : Link). link_pushed l c.args.message.now) new c.requires c.at_mut-entry.ensures.value c.push_with_undo.ensures.ok

pub returns-clause-err : goal.returns-clause-err
returns-clause-err c = same_at c.push_with_undo.result c.args.links.now c.args.at c.at_mut-entry.result.now c.push_with_undo.new.self c.at_mut-entry.ensures.value c.push_with_undo.ensures.err
