-- The counts of all servers, where one of them counts on.
use Rattle.std.proofs.Common.{◌≡◌, ℕ, ◌+◌, ◌≤◌, ◌==◌, Bool, true, false, cond, ap, subst, arith}
use Rattle.std.specs.Cmp.{nat_eq_equiv}
use Rattle.fs_ident.specs.declared.actor.LeaseNo.{LeaseNo}
use Rattle.fs_server.specs.Server.{next_number}
use Rattle.fs_server.specs.declared.state.Server.{Server}
use Rattle.fs_serial.specs.Sight.{Counts, IsGiven, count_with}

-- the server's own count
pub count_here : (me n : ℕ) (others : ℕ → ℕ) → count_with me n others me ≡ n
count_here me n others = ap (λ b. cond b n (others me)) (nat_eq_equiv.refl me)

rises_if : (b : Bool) (n m k : ℕ) → n ≤ m → cond b n k ≤ cond b m k
rises_if true n m k le = le
rises_if false n m k le = omega arith

pub counts_rise : (me n m : ℕ) (others : ℕ → ℕ) → n ≤ m → (k : ℕ) → count_with me n others k ≤ count_with me m others k
counts_rise me n m others le k = rises_if (k == me) n m (others k) le

-- how many leases each server gave
abbrev pub given_by : Counts → Server → ℕ → ℕ
given_by o s = count_with s.me s.given o.given

-- ## The next number

pub next_is_new : (o : Counts) (s : Server) → IsGiven (given_by o s) (next_number s) → ⊥
next_is_new o s g = let here = count_here s.me s.given o.given in let q : s.given + 1 ≤ count_with s.me s.given o.given s.me = g in absurd (omega arith)

-- so no number that was given is the next
pub given_is_other : (o : Counts) (s : Server) (n : LeaseNo) → IsGiven (given_by o s) n → n ≡ next_number s → ⊥
given_is_other o s n g e = next_is_new o s (subst (λ m. IsGiven (given_by o s) m) e g)

-- once it is given
pub next_is_given : (o : Counts) (s : Server) → IsGiven (count_with s.me (s.given + 1) o.given) (next_number s)
next_is_given o s = let here = count_here s.me (s.given + 1) o.given in omega arith

pub one_more_given : (o : Counts) (s : Server) (k : ℕ) → given_by o s k ≤ count_with s.me (s.given + 1) o.given k
one_more_given o s = counts_rise s.me s.given (s.given + 1) o.given (omega arith)

pub still_given : (o : Counts) (s : Server) (n : LeaseNo) → IsGiven (given_by o s) n → IsGiven (count_with s.me (s.given + 1) o.given) n
still_given o s n g = let more = one_more_given o s n.server in omega arith
