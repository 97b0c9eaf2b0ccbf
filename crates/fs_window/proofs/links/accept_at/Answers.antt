use Rattle.fs_window.specs.declared.link.Link.{Link}
use Rattle.fs_window.specs.Post.{link_accepted}
use Rattle.fs_window.proofs.Places.{same_at, changed_at}
use Rattle.fs_window.proofs.links.accept_at.Goals as goal

pub returns-clause-state : goal.returns-clause-state
returns-clause-state c = λ new. changed_at c.accept.result c.args.links.now c.args.from c.args.at c.at_mut-entry.result.now c.accept.new.self (λ (l : Link). link_accepted l c.args.p.now) new c.requires c.at_mut-entry.ensures.value c.accept.ensures.state

pub returns-clause-err : goal.returns-clause-err
returns-clause-err c = same_at c.accept.result c.args.links.now c.args.at c.at_mut-entry.result.now c.accept.new.self c.at_mut-entry.ensures.value c.accept.ensures.err
