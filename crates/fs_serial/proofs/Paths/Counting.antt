-- How many have a path lease: messages on their way, and servers.
use Rattle.std.proofs.Common.{◌≡◌, ◌+◌, ◌≤◌, ◌==◌, ℕ, Bool, true, false, not, List, [], ◌∷◌, ◌++◌, map, refl, ap, ap₂, ◌∙◌, cond, inl, inr, arith}
use Rattle.std.specs.Prelude.{Some, slice_get, slice_set}
use Rattle.std.specs.List.{filter, find, flat_map}
use Rattle.std.proofs.lemmas.Bool.{eqb-true}
use Rattle.fs_ident.specs.In.{In}
use Rattle.fs_ident.specs.declared.actor.PathNo.{PathNo}
use Rattle.fs_ident.proofs.Booleans.{both, joined}
use Rattle.fs_ident.proofs.Same.{itself}
use Rattle.fs_ident.proofs.Standing.{In-got}
use Rattle.fs_path.specs.Leases.{PathLease, same_path_no}
use Rattle.fs_path.specs.Returns.{asked_back, goes_back, held_after, is_of}
use Rattle.fs_path.specs.Tables.{lease_of, leaving}
use Rattle.fs_path.specs.declared.having.Having.{Having}
use Rattle.fs_server.specs.declared.state.Server.{Server}
use Rattle.fs_serial.specs.Cluster.{InFlight, is_between, without_first}
use Rattle.fs_serial.specs.Paths.{has_path, held_by_all, holders}
use Rattle.fs_serial.proofs.Lists.Servers.{In_at}
use Rattle.fs_serial.proofs.Lists.Counted.{at_least, how_many, none_passes, one_if, one_of, total, total_append, total_set, total_without}

-- ## Numbers

pub no_itself : (n : PathNo) → same_path_no n n ≡ true
no_itself n = joined (n.server == n.server) (n.count == n.count) (itself n.server) (itself n.count)

pub no_is : (a b : PathNo) → same_path_no a b ≡ true → a ≡ b
no_is a b h =
    let q = both (a.server == b.server) (a.count == b.count) h in
    ap₂ (λ (s n : ℕ). let r : PathNo = record { server = s; count = n } in r) (eqb-true a.server b.server q.0) (eqb-true a.count b.count q.1)

-- a number that passes is that one
pub no_like : (a b : PathNo) → a ≡ b → same_path_no a b ≡ true
no_like a b e = ap (λ x. same_path_no x b) e ∙ no_itself b

-- ## Sums

-- over what each item gives
pub total_each : {X Y : Type 0} (f : X → List Y) (g : Y → ℕ) (xs : List X) → total g (flat_map f xs) ≡ total (λ x. total g (f x)) xs
total_each f g [] = refl
total_each f g (x ∷ xs) =
    let rest = total_each f g xs in
    let both_parts = total_append g (f x) (flat_map f xs) in
    omega (arith, rest, both_parts)

-- those that pass a test, and the others
pub total_parts : {X : Type 0} (f : X → ℕ) (test : X → Bool) (xs : List X)
    → total f (filter (λ x. not (test x)) xs) + total f (filter test xs) ≡ total f xs
total_parts f test [] = refl
total_parts f test (x ∷ xs) = by (test x) (total_parts f test xs)
  where
    by : (b : Bool) → total f (filter (λ y. not (test y)) xs) + total f (filter test xs) ≡ total f xs
        → total f (cond (not b) (x ∷ filter (λ y. not (test y)) xs) (filter (λ y. not (test y)) xs))
        + total f (cond b (x ∷ filter test xs) (filter test xs)) ≡ f x + total f xs
    by true e = omega (arith, e)
    by false e = omega (arith, e)

-- ## Holders

-- messages on their way that bring the lease or give it back
abbrev pub on_way : PathNo → List InFlight → ℕ
on_way n in_flight = total (λ (f : InFlight). one_if (has_path n f.message)) in_flight

-- how often one server has it
abbrev pub had : PathNo → List Having → ℕ
had n held = total (λ h. one_if (is_of n h)) held

pub holders_are : (n : PathNo) (servers : List Server) (fs : List InFlight)
    → holders n servers fs ≡ on_way n fs + total (λ (s : Server). had n s.paths.held) servers
holders_are n servers fs =
    let a = how_many (λ (f : InFlight). has_path n f.message) fs in
    let b = how_many (is_of n) (held_by_all servers) in
    let d = total_each (λ (s : Server). s.paths.held) (λ h. one_if (is_of n h)) servers in
    omega (arith, a, b, d)

-- where one server changes, and messages do
pub holders_then : (n : PathNo) (servers : List Server) (k : ℕ) (s t : Server) (fs gs : List InFlight) → slice_get servers k ≡ Some s
    → holders n (slice_set servers k t) gs + (on_way n fs + had n s.paths.held) ≡ holders n servers fs + (on_way n gs + had n t.paths.held)
holders_then n servers k s t fs gs at =
    let a = holders_are n servers fs in
    let b = holders_are n (slice_set servers k t) gs in
    let d = total_set (λ (x : Server). had n x.paths.held) servers k s t at in
    omega (arith, a, b, d)

-- a message that is taken
pub on_way_without : (n : PathNo) (from k : ℕ) (fs : List InFlight) (f : InFlight) → find (is_between from k) fs ≡ Some f
    → on_way n fs ≡ one_if (has_path n f.message) + on_way n (without_first (is_between from k) fs)
on_way_without n from k fs f there = total_without (λ (g : InFlight). one_if (has_path n g.message)) (is_between from k) fs f there

pub on_way_more : (n : PathNo) (fs gs : List InFlight) → on_way n (fs ++ gs) ≡ on_way n fs + on_way n gs
on_way_more n fs gs = total_append (λ (f : InFlight). one_if (has_path n f.message)) fs gs

-- ## What goes back

-- a lease that is asked back keeps its number
pub asked_lease : (asked : Having → Bool) (h : Having) → lease_of (asked_back asked h) ≡ lease_of h
asked_lease asked h = by (asked h)
  where
    by : (b : Bool) → lease_of (cond b (leaving h) h) ≡ lease_of h
    by true = refl
    by false = refl

pub had_asked : (n : PathNo) (asked : Having → Bool) (hs : List Having) → had n (map (asked_back asked) hs) ≡ had n hs
had_asked n asked [] = refl
had_asked n asked (h ∷ hs) =
    let here : one_if (is_of n (asked_back asked h)) ≡ one_if (is_of n h) = ap (λ (l : PathLease). one_if (same_path_no l.no n)) (asked_lease asked h) in
    let rest = had_asked n asked hs in
    omega (arith, here, rest)

-- what is left, and what goes
pub had_after : (n : PathNo) (asked : Having → Bool) (issued : List PathLease) (held : List Having)
    → had n (held_after asked issued held) + had n (filter (goes_back asked issued) held) ≡ had n held
had_after n asked issued held =
    let a = had_asked n asked (filter (λ h. not (goes_back asked issued h)) held) in
    let b = total_parts (λ h. one_if (is_of n h)) (goes_back asked issued) held in
    omega (arith, a, b)

-- ## Nobody has it

-- no message brings the lease of the number, and no server has it
pub record IsNobodys (number : PathNo) (servers : List Server) (in_flight : List InFlight) : Type 0 where
  pub unsent : (f : InFlight) → In f in_flight → has_path number f.message ≡ false
  pub unheld : (k : ℕ) (s : Server) → slice_get servers k ≡ Some s → (h : Having) → In h s.paths.held → is_of number h ≡ false

none_counted : {X : Type 0} (p : X → Bool) (xs : List X) → total (λ x. one_if (p x)) xs ≡ 0 → (x : X) → In x xs → p x ≡ false
none_counted p xs z x i = by (p x) refl
  where
    by : (b : Bool) → p x ≡ b → b ≡ false
    by true e = let one = one_of p xs x i e in absurd (omega (arith, z, one))
    by false e = refl

pub had_none : (n : PathNo) (held : List Having) → had n held ≡ 0 → (h : Having) → In h held → is_of n h ≡ false
had_none n held z h i = none_counted (is_of n) held z h i

pub nobody : (n : PathNo) (servers : List Server) (fs : List InFlight) → holders n servers fs ≤ 0 → IsNobodys n servers fs
nobody n servers fs z =
    let are = holders_are n servers fs in
    let no_message : on_way n fs ≡ 0 = omega (arith, are, z) in
    let no_server : total (λ (s : Server). had n s.paths.held) servers ≡ 0 = omega (arith, are, z) in
    record {
      unsent = λ f i. none_counted (λ (g : InFlight). has_path n g.message) fs no_message f i;
      unheld = λ k s at h i.
          let few = at_least (λ (t : Server). had n t.paths.held) servers s (In-got servers k s at) in
          had_none n s.paths.held (omega (arith, few, no_server)) h i;
    }

-- where at most one has it, and the message that comes does, nobody else has
pub alone : (n : PathNo) (servers : List Server) (from k : ℕ) (fs : List InFlight) (f : InFlight) → find (is_between from k) fs ≡ Some f
    → has_path n f.message ≡ true → holders n servers fs ≤ 1 → IsNobodys n servers (without_first (is_between from k) fs)
alone n servers from k fs f there has few =
    let a = holders_are n servers fs in
    let b = holders_are n servers (without_first (is_between from k) fs) in
    let d = on_way_without n from k fs f there in
    let one : one_if (has_path n f.message) ≡ 1 = ap one_if has in
    nobody n servers (without_first (is_between from k) fs) (omega (arith, a, b, d, one, few))

total_none : {X : Type 0} (g : X → ℕ) (xs : List X) → ((x : X) → In x xs → g x ≡ 0) → total g xs ≡ 0
total_none g [] h = refl
total_none g (x ∷ xs) h = let here = h x (inl refl) in let rest = total_none g xs (λ y i. h y (inr i)) in omega (arith, here, rest)

pub nobody_has : (n : PathNo) (servers : List Server) (fs : List InFlight) → IsNobodys n servers fs → holders n servers fs ≡ 0
nobody_has n servers fs none =
    let are = holders_are n servers fs in
    let messages : on_way n fs ≡ 0 = none_passes (λ (f : InFlight). has_path n f.message) fs none.unsent in
    let all : total (λ (s : Server). had n s.paths.held) servers ≡ 0 =
    total_none (λ (s : Server). had n s.paths.held) servers (λ s i. let its = In_at servers s i in none_passes (is_of n) s.paths.held (none.unheld its.place s its.is)) in
    omega (arith, are, messages, all)
