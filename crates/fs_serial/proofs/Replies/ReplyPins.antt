-- A client answers: its leases are in use by one entry more.
use Rattle.std.proofs.Common.{◌≡◌, ℕ, ◌+◌, Bool, true, false, List, [], ◌∷◌, ◌++◌, map, refl, sym, ap, ◌∙◌, subst, inl, inr, cond, arith}
use Rattle.std.specs.Prelude.{option_map, None}
use Rattle.std.specs.List.{filter_map, cons_option}
use Rattle.std.proofs.lemmas.List.{map-append}
use Rattle.fs_ident.specs.In.{In}
use Rattle.fs_ident.specs.declared.actor.LeaseNo.{LeaseNo}
use Rattle.fs_ident.specs.declared.actor.Session.{Session}
use Rattle.fs_ident.proofs.Standing.{In-map}
use Rattle.fs_field.specs.declared.effect.Effect.{Effect}
use Rattle.fs_field.specs.declared.used.Use.{Use}
use Rattle.fs_field.specs.Table.{same_no}
use Rattle.fs_field.proofs.SameNo.{same_no_is, same_no_symm}
use Rattle.fs_lease.specs.Lease.{Lease as Term}
use Rattle.fs_msg.specs.declared.entry.Entry.{Entry}
use Rattle.fs_record.specs.Effects.{effects_of}
use Rattle.fs_client.specs.Client.{with_reply}
use Rattle.fs_client.specs.declared.state.Client.{Client}
use Rattle.fs_view.specs.declared.view_lease.ViewLease.{ViewLease}
use Rattle.fs_view.specs.declared.view_lease.Standing.{Standing}
use Rattle.fs_view.specs.declared.view_lease.Standing.TheVariants.{Held, Pinned, Leaving}
use Rattle.fs_view.specs.ViewLease.{number_of, entries_of, file_in, lease_of, has_number, is_leaving, pinned}
use Rattle.fs_view.specs.View.{pinned_at, pinned_all}
use Rattle.fs_view.proofs.Pins.{with_pin}
use Rattle.fs_view.proofs.Changed.{pinned_number}
use Rattle.fs_serial.specs.Client.{led_before, ClientFits, KeptDistinct, times_used, times_in}
use Rattle.fs_serial.specs.Settled.{Lease, Settled, lease_in, effects_in, settled_now}
use Rattle.fs_serial.specs.Pending.{HasLease, UsesHeld}
use Rattle.fs_serial.proofs.Lists.Journals.{each_image, each_more}
use Rattle.fs_serial.proofs.Replies.Reply.{with_last}

-- ## One use more

-- the file and the number, as a message names them
abbrev pub pair_in : Standing → List ℕ × LeaseNo
pair_in s = (file_in s, number_of s)

pub pin_pair : (s : Standing) → pair_in (pinned s) ≡ pair_in s
pin_pair (Held l) = refl
pin_pair (Pinned u) = refl
pin_pair (Leaving l) = refl

pub pin_leaving : (s : Standing) → is_leaving (pinned s) ≡ is_leaving s
pin_leaving (Held l) = refl
pin_leaving (Pinned u) = refl
pin_leaving (Leaving l) = refl

pin_entries : (s : Standing) → is_leaving s ≡ false → entries_of (pinned s) ≡ entries_of s + 1
pin_entries (Held l) h = omega arith
pin_entries (Pinned u) h = refl
pin_entries (Leaving l) h = absurd (cc)

pin_lease : (s : Standing) → lease_of (pinned s) ≡ lease_of s
pin_lease (Held l) = refl
pin_lease (Pinned u) = refl
pin_lease (Leaving l) = refl

-- what a change keeps of a standing, it keeps of the lease of that number
pub one_keeps : {X : Type 0} (f : Standing → X) (g : Standing → Standing) → ((s : Standing) → f (g s) ≡ f s) → (n : LeaseNo) (k : ViewLease) → f (cond (has_number n k) (let x : ViewLease = record k { standing = g k.standing } in x) k).standing ≡ f k.standing
one_keeps f g h n k = within (has_number n k)
  where
    within : (b : Bool) → f (cond b (let x : ViewLease = record k { standing = g k.standing } in x) k).standing ≡ f k.standing
    within true = h k.standing
    within false = refl

-- ## Leases as servers see them

pin_in : (n : LeaseNo) (k : ViewLease) → lease_in (with_pin n k) ≡ lease_in k
pin_in n k = within (has_number n k)
  where
    within : (b : Bool) → lease_in (cond b (let x : ViewLease = record k { standing = pinned k.standing } in x) k) ≡ lease_in k
    within true = ap (λ o. option_map (λ (l : Term). let x : Lease = record { no = l.no; field = l.field; kind = l.kind; until = l.until; base = k.base; below = k.below } in x) o) (pin_lease k.standing)
    within false = refl

pub same_leases : (f : ViewLease → ViewLease) → ((k : ViewLease) → lease_in (f k) ≡ lease_in k) → (ks : List ViewLease) → filter_map lease_in (map f ks) ≡ filter_map lease_in ks
same_leases f h [] = refl
same_leases f h (k ∷ ks) = ap (λ o. cons_option o (filter_map lease_in (map f ks))) (h k) ∙ ap (cons_option (lease_in k)) (same_leases f h ks)

pub pinned_leases : (us : List Use) (ks : List ViewLease) → filter_map lease_in (pinned_all us ks) ≡ filter_map lease_in ks
pinned_leases [] ks = refl
pinned_leases (u ∷ us) ks = pinned_leases us (pinned_at u.no ks) ∙ same_leases (with_pin u.no) (pin_in u.no) ks

-- ## Numbers

pub distinct_mapped : (f : ViewLease → ViewLease) → ((k : ViewLease) → number_of (f k).standing ≡ number_of k.standing) → (ks : List ViewLease) → KeptDistinct ks → KeptDistinct (map f ks)
distinct_mapped f same ks h k l i j e =
    let p = In-map f k ks i in
    let q = In-map f l ks j in
    p.1.1 ∙ ap f (h p.0 q.0 p.1.0 q.1.0 (sym (ap (λ (x : ViewLease). number_of x.standing) p.1.1 ∙ same p.0) ∙ e ∙ ap (λ (x : ViewLease). number_of x.standing) q.1.1 ∙ same q.0)) ∙ sym q.1.1

pub distinct_all : (us : List Use) (ks : List ViewLease) → KeptDistinct ks → KeptDistinct (pinned_all us ks)
distinct_all [] ks h = h
distinct_all (u ∷ us) ks h = distinct_all us (pinned_at u.no ks) (distinct_mapped (with_pin u.no) (one_keeps number_of pinned pinned_number u.no) ks h)

-- ## Counts

-- no lease of these numbers goes back
abbrev pub InHand : List Use → List ViewLease → Type 0
InHand us ks = (u : Use) → In u us → (k : ViewLease) → In k ks → number_of k.standing ≡ u.no → is_leaving k.standing ≡ false

in_hand_still : (us : List Use) (n : LeaseNo) (ks : List ViewLease) → InHand us ks → InHand us (pinned_at n ks)
in_hand_still us n ks h u i = each_image (with_pin n) (λ k. number_of k.standing ≡ u.no → is_leaving k.standing ≡ false) ks (λ k j e. one_keeps is_leaving pinned pin_leaving n k ∙ h u i k j (sym (one_keeps number_of pinned pinned_number n k) ∙ e))

abbrev one_more : Bool → ℕ → ℕ
one_more b n = cond b (n + 1) n

counted_one : (u : Use) (ks : List ViewLease) (count : LeaseNo → ℕ) → ((k : ViewLease) → In k ks → number_of k.standing ≡ u.no → is_leaving k.standing ≡ false) → ((k : ViewLease) → In k ks → entries_of k.standing ≡ count (number_of k.standing))
    → (k : ViewLease) → In k (pinned_at u.no ks) → entries_of k.standing ≡ one_more (same_no u.no (number_of k.standing)) (count (number_of k.standing))
counted_one u ks count hand h = each_image (with_pin u.no) (λ k. entries_of k.standing ≡ one_more (same_no u.no (number_of k.standing)) (count (number_of k.standing))) ks (λ k i.
    let number : number_of (with_pin u.no k).standing ≡ number_of k.standing = one_keeps number_of pinned pinned_number u.no k in
    within k i (has_number u.no k) refl
    ∙ ap (λ b. one_more b (count (number_of k.standing))) (same_no_symm (number_of k.standing) u.no)
    ∙ ap (λ n. one_more (same_no u.no n) (count n)) (sym number))
  where
    within : (k : ViewLease) → In k ks → (b : Bool) → has_number u.no k ≡ b → entries_of (cond b (let x : ViewLease = record k { standing = pinned k.standing } in x) k).standing ≡ one_more b (count (number_of k.standing))
    within k i true t = pin_entries k.standing (hand k i (same_no_is (number_of k.standing) u.no t)) ∙ ap (λ n. n + 1) (h k i)
    within k i false t = h k i

sum_more : (b : Bool) (c t : ℕ) → one_more b c + t ≡ c + cond b (t + 1) t
sum_more true c t = omega arith
sum_more false c t = refl

pub counted_all : (us : List Use) (ks : List ViewLease) (count : LeaseNo → ℕ) → InHand us ks → ((k : ViewLease) → In k ks → entries_of k.standing ≡ count (number_of k.standing)) → (k : ViewLease) → In k (pinned_all us ks) → entries_of k.standing ≡ count (number_of k.standing) + times_used (number_of k.standing) us
counted_all [] ks count hand h k i = let q = h k i in omega arith
counted_all (u ∷ us) ks count hand h k i =
    counted_all us (pinned_at u.no ks) (λ n. one_more (same_no u.no n) (count n)) (in_hand_still us u.no ks (λ v j. hand v (inr j))) (counted_one u ks count (hand u (inl refl)) h) k i
    ∙ sum_more (same_no u.no (number_of k.standing)) (count (number_of k.standing)) (times_used (number_of k.standing) us)

times-append : (n : LeaseNo) (es : List Entry) (e : Entry) → times_in n (es ++ e ∷ []) ≡ times_in n es + times_used n e.uses
times-append n [] e = omega arith
times-append n (x ∷ es) e = let q = times-append n es e in omega arith

-- ## The client

pub reply_client : (by : Session) (c : Client) (e : Entry) → c.led ≡ None → ClientFits by c → InHand e.uses c.view.leases → ((u : Use) → In u e.uses → HasLease (settled_now c).leases u) → ClientFits by (with_reply e (effects_of c.session e.op e.reply) c)
reply_client by c e n f hand own = record {
  session = f.session;
  viewed = f.viewed;
  pending = ap (λ s. c.view.pending ++ effects_of s e.op e.reply ∷ []) f.session ∙ ap (λ es. es ++ effects_in by e ∷ []) f.pending ∙ sym (map-append (effects_in by) c.log (e ∷ []));
  distinct = distinct_all e.uses c.view.leases f.distinct;
  pinned = λ k i. counted_all e.uses c.view.leases (λ n. times_in n c.log) hand (λ j h. f.pinned j h ∙ ap (λ o. times_in (number_of j.standing) (led_before o c.log)) n) k i ∙ sym (times-append (number_of k.standing) c.log e)
      ∙ ap (λ o. times_in (number_of k.standing) (led_before o (c.log ++ e ∷ []))) (sym n);
  held = subst (λ o. UsesHeld (settled_now (with_reply e (effects_of c.session e.op e.reply) c)).leases (led_before o (c.log ++ e ∷ []))) (sym n)
      (subst (λ ls. UsesHeld ls (c.log ++ e ∷ [])) (sym (pinned_leases e.uses c.view.leases)) (each_more (λ x. (u : Use) → In u x.uses → HasLease (settled_now c).leases u) c.log e (subst (λ o. UsesHeld (settled_now c).leases (led_before o c.log)) n f.held) own));
}

-- what servers see of it has one entry more
pub reply_settled : (c : Client) (e : Entry) (effects : List Effect) → settled_now (with_reply e effects c) ≡ with_last e (settled_now c)
reply_settled c e effects = ap (λ ls. let x : Settled = record { leases = ls; log = c.log ++ e ∷ []; next = c.next + 1; over = c.over; led = c.led } in x) (pinned_leases e.uses c.view.leases)
