use Rattle.fs_field.specs.declared.path.PathAnswer.TheVariants.{Frozen, Wanted}
use Rattle.fs_server.proofs.Leading.{begun_at_home, checked_on_path, frozen_off_path, led_at_home, led_over}
use Rattle.fs_server.proofs.law.operations_are_led_at_home.Goals as goal

pub returns-clause-elsewhere : goal.returns-clause-elsewhere
returns-clause-elsewhere c = led_at_home

pub returns-clause-begins : goal.returns-clause-begins
returns-clause-begins c = begun_at_home

pub returns-clause-on : goal.returns-clause-on
returns-clause-on c = checked_on_path

pub returns-clause-off : goal.returns-clause-off
returns-clause-off c = frozen_off_path

pub returns-clause-wanted : goal.returns-clause-wanted
returns-clause-wanted c by m top dir = led_over by m (Wanted top dir)

pub returns-clause-frozen : goal.returns-clause-frozen
returns-clause-frozen c by m file txn = led_over by m (Frozen file txn)
