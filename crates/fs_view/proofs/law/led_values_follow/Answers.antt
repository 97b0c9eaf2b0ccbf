use Rattle.fs_view.proofs.LedValues.{led_follows, led_stays}
use Rattle.fs_view.proofs.law.led_values_follow.Goals as goal

pub returns-clause-follow : goal.returns-clause-follow
returns-clause-follow c = led_follows

pub returns-clause-stay : goal.returns-clause-stay
returns-clause-stay c = led_stays
