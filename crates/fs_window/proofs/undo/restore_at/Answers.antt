use Rattle.fs_window.specs.declared.link.Link.{Link}
use Rattle.fs_window.specs.Undo.{link_before}
use Rattle.fs_window.proofs.Places.{restored_at}
use Rattle.fs_window.proofs.undo.restore_at.Goals as goal

pub returns : goal.returns
returns c = λ l found. restored_at c.args.links.now c.args.peer c.args.at c.at_mut-entry.result.now c.undo.new.self (λ (l : Link). link_before c.args.before l) l c.requires c.at_mut-entry.ensures.value c.undo.ensures found
