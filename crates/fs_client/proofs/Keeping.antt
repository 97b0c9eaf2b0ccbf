-- What a change keeps of a client.
use Rattle.std.proofs.Common.{◌≡◌, ◌≤◌, ℕ, zero, suc, true, List, [], ◌∷◌, refl, ap, arith, sym, ◌∙◌, Ok, Err, subst}
use Rattle.std.specs.Prelude.{Option, Some, None, Result, OnOk, OnErr, is_some, max, nat_le, nat_lt, not}
use Rattle.std.proofs.lemmas.Bool.Decides.{nat_tests}
use Rattle.fs_ident.proofs.Booleans.{both}
use Rattle.fs_ident.specs.declared.limits.TheConstants.{LATEST}
use Rattle.fs_ident.specs.declared.memory.Memory.{Memory}
use Rattle.fs_msg.specs.declared.entry.Entry.{Entry}
use Rattle.fs_msg.specs.declared.limits.TheConstants.{LONGEST}
use Rattle.fs_client.specs.declared.change.Change.{Change}
use Rattle.fs_client.specs.declared.change.Change.TheVariants as change
use Rattle.fs_client.specs.declared.led.Led.{Led}
use Rattle.fs_client.specs.declared.plan.Ready.{Ready}
use Rattle.fs_client.specs.declared.state.Client.{Client}
use Rattle.fs_map.specs.Map.{Owners}
use Rattle.fs_client.specs.Client.{IsClient, admitted_all, admitted_one, begun, can_change, can_commit, changed, committed, has_number_left, may_use_number, with_hints}

-- whose client it is, its hints, its term and its last reading stay
abbrev pub Keeps : Client → Client → Type 0
Keeps old new = (new.session ≡ old.session) × (new.hints ≡ old.hints) × (new.term ≡ old.term) × (new.last ≡ old.last)

one_admitted : (es : List Entry) (c : Client) → Keeps c (admitted_one c es)
one_admitted [] c = (refl, refl, refl, refl)
one_admitted (e ∷ es) c = (refl, refl, refl, refl)

all_admitted : (k : ℕ) (c : Client) → Keeps c (admitted_all k c)
all_admitted zero c = (refl, refl, refl, refl)
all_admitted (suc k) c =
    let one : Keeps c (admitted_one c c.log) = one_admitted c.log c in
    let rest : Keeps (admitted_one c c.log) (admitted_all k (admitted_one c c.log)) = all_admitted k (admitted_one c c.log) in
    (rest.0 ∙ one.0, rest.1 ∙ one.1, rest.2 ∙ one.2, rest.3 ∙ one.3)

-- no change but a hint changes the hints
pub keeps : (ch : Change) (c : Client) → Keeps c (changed ch c)
keeps change.Nothing c = (refl, refl, refl, refl)
keeps change.Read c = (refl, refl, refl, refl)
keeps (change.Reply entry effects) c = (refl, refl, refl, refl)
keeps (change.Ask x) c = (refl, refl, refl, refl)
keeps (change.Leave to numbers) c = (refl, refl, refl, refl)
keeps (change.Grant leases full) c = (refl, refl, refl, refl)
keeps (change.Renew ends) c = (refl, refl, refl, refl)
keeps (change.Release numbers) c = (refl, refl, refl, refl)
keeps (change.Admit count over) c = all_admitted count c
keeps (change.Lead to led) c = (refl, refl, refl, refl)
keeps (change.LedDone effects) c = (refl, refl, refl, refl)
keeps change.LedFreed c = (refl, refl, refl, refl)
keeps (change.Recall number) c = (refl, refl, refl, refl)

-- ## What is led

nothing_led : {X : Type 0} (o : Option X) → is_some o ≡ true → not (is_some o) ≡ true → ⊥
nothing_led None h k = absurd (cc)
nothing_led (Some x) h k = absurd (cc)

-- entries that are admitted change neither what is led nor the next number
one_leaves : (es : List Entry) (c : Client) → ((admitted_one c es).led ≡ c.led) × ((admitted_one c es).next ≡ c.next)
one_leaves [] c = (refl, refl)
one_leaves (e ∷ es) c = (refl, refl)

pub admitted_leaves : (k : ℕ) (c : Client) → ((admitted_all k c).led ≡ c.led) × ((admitted_all k c).next ≡ c.next)
admitted_leaves zero c = (refl, refl)
admitted_leaves (suc k) c =
    let one = one_leaves c.log c in
    let rest = admitted_leaves k (admitted_one c c.log) in
    (rest.0 ∙ one.0, rest.1 ∙ one.1)

-- a number is left for what is led, where one was
pub numbers_left : (ch : Change) (c : Client) → (is_some c.led ≡ true → has_number_left c ≡ true) → can_change ch c ≡ true → is_some (changed ch c).led ≡ true → has_number_left (changed ch c) ≡ true
numbers_left change.Nothing c i h l = i l
numbers_left change.Read c i h l = absurd (nothing_led c.led l (both (has_number_left c) _ h).1)
numbers_left (change.Reply entry effects) c i h l = absurd (nothing_led c.led l (both (has_number_left c) _ (both (may_use_number c) _ h).0).1)
numbers_left (change.Ask x) c i h l = i l
numbers_left (change.Leave to numbers) c i h l = i l
numbers_left (change.Grant leases full) c i h l = i l
numbers_left (change.Renew ends) c i h l = i l
numbers_left (change.Release numbers) c i h l = i l
numbers_left (change.Admit count over) c i h l =
    let same = admitted_leaves count c in
    ap (λ n. nat_lt n 0xffff_ffff_ffff_ffff) same.1 ∙ i (ap (λ (x : Option Led). is_some x) (sym same.0) ∙ l)
numbers_left (change.Lead to led) c i h l = (both (has_number_left c) _ h).0
numbers_left (change.LedDone effects) c i h l = absurd (cc)
numbers_left change.LedFreed c i h l = absurd (cc)
numbers_left (change.Recall number) c i h l = i l

told_client : (h : Option Owners) (c : Client) → IsClient c → IsClient (with_hints h c)
told_client None c i = i
told_client (Some hints) c i = record { term = i.term; last = i.last; led = i.led }

greatest : (a b n : ℕ) → a ≤ n → nat_le b n ≡ true → max a b ≤ n
greatest a b n h g = grind (arith, nat_tests)

-- a client stays one
pub stays_client : (r : Ready) (c : Client) → IsClient c → can_commit r c ≡ true → IsClient (committed r c)
stays_client r c i h =
    let q : (nat_le r.now LATEST ≡ true) × (can_change r.change (begun r.now c) ≡ true) = both (nat_le r.now LATEST) _ h in
    told_client r.hints (changed r.change (begun r.now c))
    (record {
      term = subst (λ n. n ≤ LONGEST) (sym (keeps r.change (begun r.now c)).2) i.term;
      last = subst (λ n. n ≤ LATEST) (sym (keeps r.change (begun r.now c)).3) (greatest c.last r.now LATEST i.last q.0);
      led = numbers_left r.change (begun r.now c) i.led q.1;
    })

pub is_client_still : (res : Result (Unit {0}) Memory) (r : Ready) (old new : Client) → OnOk res (new ≡ committed r old) → OnErr res (new ≡ old) → IsClient old → can_commit r old ≡ true → IsClient new
is_client_still (Ok u) r old new ok err i h = subst IsClient (sym ok) (stays_client r old i h)
is_client_still (Err m) r old new ok err i h = subst IsClient (sym err) i
