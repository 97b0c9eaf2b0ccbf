-- What is led of a session, while other things change.
use Rattle.std.proofs.Common.{◌≡◌, ℕ, ◌+◌, List, [], ◌∷◌, refl, sym, subst, inl, inr, arith}
use Rattle.std.specs.Prelude.{Option, Some, None}
use Rattle.fs_ident.specs.In.{In}
use Rattle.fs_ident.specs.declared.actor.LeaseNo.{LeaseNo}
use Rattle.fs_ident.specs.declared.actor.Session.{Session}
use Rattle.fs_field.specs.declared.used.Use.{Use}
use Rattle.fs_msg.specs.declared.entry.Entry.{Entry}
use Rattle.fs_client.specs.declared.led.Led.{Led}
use Rattle.fs_serial.specs.Client.{led_before, times_in, times_used}
use Rattle.fs_serial.specs.Led.{LedFits, LedStands}
use Rattle.fs_serial.specs.Settled.{Settled}
use Rattle.fs_serial.specs.Sight.{Sight}

-- where something is led
pub each_led : (skew greatest later : ℕ) (s t : Sight) (by : Session) (d e : Settled) (led : Option Led) → ((l : Led) → led ≡ Some l → LedStands skew greatest s by d l → LedStands skew later t by e l) → LedFits skew greatest s by d led → LedFits skew later t by e led
each_led skew greatest later s t by d e None f h = tt
each_led skew greatest later s t by d e (Some l) f h = f l refl h

-- nothing is led
pub none_led : (skew greatest : ℕ) (s : Sight) (by : Session) (d : Settled) → d.led ≡ None → LedFits skew greatest s by d d.led
none_led skew greatest s by d e = subst (LedFits skew greatest s by d) (sym e) tt

-- what holds of the one entry
pub one_entry : {P : Use → Type 0} (e : Entry) → ((u : Use) → In u e.uses → P u) → (x : Entry) → In x (e ∷ []) → (u : Use) → In u x.uses → P u
one_entry e f x (inl same) u i = f u (subst (λ (y : Entry). In u y.uses) same i)
one_entry e f x (inr z) u i = absurd z

-- ## What is led, before a log

pub in_before : (led : Option Led) (log : List Entry) (x : Entry) → In x log → In x (led_before led log)
in_before None log x i = i
in_before (Some l) log x i = inr i

pub led_first : (led : Option Led) (log : List Entry) (l : Led) → led ≡ Some l → In l.entry (led_before led log)
led_first led log l e = subst (λ o. In l.entry (led_before o log)) (sym e) (inl refl)

-- the first entry of the log counts beside what is led
pub times_led : (n : LeaseNo) (led : Option Led) (x : Entry) (es : List Entry) → times_in n (led_before led (x ∷ es)) ≡ times_used n x.uses + times_in n (led_before led es)
times_led n None x es = refl
times_led n (Some l) x es = omega arith

pub tail_before : (led : Option Led) (x : Entry) (es : List Entry) (y : Entry) → In y (led_before led es) → In y (led_before led (x ∷ es))
tail_before None x es y i = inr i
tail_before (Some l) x es y (inl e) = inl e
tail_before (Some l) x es y (inr i) = inr (inr i)
