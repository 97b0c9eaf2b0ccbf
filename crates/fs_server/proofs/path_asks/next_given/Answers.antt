use Rattle.std.proofs.Common.{◌≡◌, ap, ap₂, sym, ◌∙◌, Some}
use Rattle.fs_msg.specs.declared.core_error.Counter.TheVariants.{Paths}
use Rattle.fs_path.specs.Numbers.{next_path}
use Rattle.fs_server.proofs.PathAsking.{gives_spent}
use Rattle.fs_server.proofs.path_asks.next_given.Goals as goal

pub returns-in-None-clause-spent : goal.returns-in-None-clause-spent
returns-in-None-clause-spent c counter h =
    let q : Paths ≡ counter = cc h in
    gives_spent c.args.to c.args.file.now c.args.above c.args.at.now c.requires
    (ap₂ next_path (sym c.me.ensures) (sym c.paths_given.ensures) ∙ sym c.next_path.ensures ∙ c.in-None.is) ∙ ap Some q
