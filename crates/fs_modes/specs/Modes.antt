-- The accesses and the denials of an open, and when two opens conflict.
use Rattle.std.specs.Prelude.{ℕ, ◌+◌, Bool, false, not, ◌&&◌, ◌||◌, if◌then◌else◌}
use Rattle.fs_modes.specs.declared.modes.Mode.{Mode}
use Rattle.fs_modes.specs.declared.modes.Mode.TheVariants.{AccR, AccW, AccD, DenyR, DenyW, DenyD}
use Rattle.fs_modes.specs.declared.modes.Modes.{Modes}

abbrev pub none : Modes
none = record { acc_r = false; acc_w = false; acc_d = false; deny_r = false; deny_w = false; deny_d = false }

abbrev pub has : Modes → Mode → Bool
has m AccR = m.acc_r
has m AccW = m.acc_w
has m AccD = m.acc_d
has m DenyR = m.deny_r
has m DenyW = m.deny_w
has m DenyD = m.deny_d

-- three bits as a number: read 1, write 2, delete 4
abbrev pub number_of : Bool → Bool → Bool → ℕ
number_of r w d = (if r then 1 else 0) + (if w then 2 else 0) + (if d then 4 else 0)

abbrev pub acc_of : Modes → ℕ
acc_of m = number_of m.acc_r m.acc_w m.acc_d

abbrev pub deny_of : Modes → ℕ
deny_of m = number_of m.deny_r m.deny_w m.deny_d

-- there is at least one access
abbrev pub has_access : Modes → Bool
has_access m = (m.acc_r || m.acc_w) || m.acc_d

-- an access of the first is denied by the second
abbrev pub is_denied : Modes → Modes → Bool
is_denied a b = ((a.acc_r && b.deny_r) || (a.acc_w && b.deny_w)) || (a.acc_d && b.deny_d)

-- an access of one is denied by the other
abbrev pub conflicts : Modes → Modes → Bool
conflicts a b = is_denied a b || is_denied b a

-- what one of the two has
abbrev pub or : Modes → Modes → Modes
or a b = record {
  acc_r = a.acc_r || b.acc_r;
  acc_w = a.acc_w || b.acc_w;
  acc_d = a.acc_d || b.acc_d;
  deny_r = a.deny_r || b.deny_r;
  deny_w = a.deny_w || b.deny_w;
  deny_d = a.deny_d || b.deny_d;
}

-- accesses and denials exchanged: what others must not have
abbrev pub opposing : Modes → Modes
opposing m = record { acc_r = m.deny_r; acc_w = m.deny_w; acc_d = m.deny_d; deny_r = m.acc_r; deny_w = m.acc_w; deny_d = m.acc_d }

-- what the first has and the second has not
abbrev pub without : Modes → Modes → Modes
without a b = record {
  acc_r = a.acc_r && not b.acc_r;
  acc_w = a.acc_w && not b.acc_w;
  acc_d = a.acc_d && not b.acc_d;
  deny_r = a.deny_r && not b.deny_r;
  deny_w = a.deny_w && not b.deny_w;
  deny_d = a.deny_d && not b.deny_d;
}
