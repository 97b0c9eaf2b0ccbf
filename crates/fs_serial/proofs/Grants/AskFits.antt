-- What a session is given fits its question.
use Rattle.std.proofs.Common.{◌≡◌, ℕ, ◌+◌, ◌≤◌, ◌<◌, ◌==◌, not, ◌&&◌, Bool, true, false, List, [], ◌∷◌, ◌++◌, append_assoc, append-nil, refl, sym, ap, ◌∙◌, inl, inr, arith}
use Rattle.std.specs.Prelude.{Option, None}
use Rattle.std.specs.FinMap.{get}
use Rattle.std.proofs.lemmas.Bool.{eqb-true}
use Rattle.fs_ident.specs.In.{In}
use Rattle.fs_ident.specs.declared.actor.LeaseNo.{LeaseNo}
use Rattle.fs_ident.specs.declared.actor.Session.{Session}
use Rattle.fs_ident.proofs.Booleans.{joined}
use Rattle.fs_ident.proofs.Standing.{In-append}
use Rattle.fs_ident.proofs.Same.{unequal}
use Rattle.fs_field.specs.declared.field.Field.{Field}
use Rattle.fs_field.specs.declared.field.Field.TheVariants.{Life, Child, Names, Info, Own, SelfW, Other}
use Rattle.fs_field.specs.declared.lease_kind.LeaseKind.{LeaseKind}
use Rattle.fs_field.specs.Field.{file_of}
use Rattle.fs_field.specs.Table.{same_kind, same_no}
use Rattle.fs_field.specs.Value.{is_value_of}
use Rattle.fs_model.specs.declared.node.Node.{Node}
use Rattle.fs_moderows.proofs.Witnesses.{In_none}
use Rattle.fs_msg.specs.declared.answer.Grant.{Grant}
use Rattle.fs_msg.specs.declared.end.End.{End}
use Rattle.fs_msg.specs.declared.end.End.TheVariants as end
use Rattle.fs_record.specs.Records.{RecordMap, node_of}
use Rattle.fs_record.specs.ValueOf.{value_at, value_of}
use Rattle.fs_server.specs.Asks.{Asking, ask_from, grant_of, kind_for, with_lease}
use Rattle.fs_server.specs.declared.state.Server.{Server}
use Rattle.fs_server.proofs.OneByOne.{AskEnds, Items, each_item, elsewhere, kept_off, waits}
use Rattle.fs_client.specs.Answers.{front_fits, is_new, is_of_item}
use Rattle.fs_view.specs.declared.view_lease.ViewLease.{ViewLease}
use Rattle.fs_view.specs.ViewLease.{has_number, number_of}
use Rattle.fs_serial.proofs.Places.Elsewhere.{not_all}
use Rattle.fs_serial.proofs.Grants.OneLease.{same_field_self, same_kind_self}

-- the value of a field is one of its kind
value_there : (by : Session) (f : Field) (o : Option Node) → is_value_of f (value_at by f o) ≡ true
value_there by (Life a) o = refl
value_there by (Child a n) o = refl
value_there by (Names a) o = refl
value_there by (Info a) o = refl
value_there by (Own a) o = refl
value_there by (SelfW a m) o = refl
value_there by (Other a m) o = refl

pub value_is : (by : Session) (m : RecordMap) (f : Field) → is_value_of f (value_of m by f) ≡ true
value_is by m f = value_there by f (node_of (get m (file_of f)))

-- no number that the server gave is above
abbrev pub KeptUpTo : ℕ → ℕ → List ViewLease → Type 0
KeptUpTo me n kept = (k : ViewLease) → In k kept → (number_of k.standing).server ≡ me → (number_of k.standing).count ≤ n

abbrev pub GrantsUpTo : ℕ → List Grant → Type 0
GrantsUpTo n grants = (g : Grant) → In g grants → g.no.count ≤ n

other_number : (a b : LeaseNo) → (a.server ≡ b.server → a.count < b.count) → same_no a b ≡ false
other_number a b h = by (a.server == b.server) refl
  where
    by : (x : Bool) → (a.server == b.server) ≡ x → (x && (a.count == b.count)) ≡ false
    by true e = unequal a.count b.count (h (eqb-true a.server b.server e))
    by false e = refl

pub new_number : (kept : List ViewLease) (before : List Grant) (me n : ℕ) (g : Grant) → g.no.server ≡ me → KeptUpTo me n kept → GrantsUpTo n before → n < g.no.count → is_new kept before g ≡ true
new_number kept before me n g at k b h =
    joined _ _ (ap not (In_none (has_number g.no) kept (λ x i. other_number (number_of x.standing) g.no (λ e. let q = k x i (e ∙ at) in omega arith))))
    (ap not (In_none (λ (x : Grant). same_no x.no g.no) before (λ x i. let q = b x i in other_number x.no g.no (λ e. omega arith))))

module _ (by : Session) (kept : List ViewLease) where
  -- the grants behind those before fit the items
  pub record IsGivenFor (items : List (Field × LeaseKind)) (before : List Grant) (me start : ℕ) (a : Asking) : Type 0 where
    pub new : List Grant
    pub split : a.grants ≡ before ++ new
    pub some : front_fits items kept before new ≡ true
    pub numbers : GrantsUpTo a.server.given a.grants
    pub rises : start ≤ a.server.given
    pub here : a.server.me ≡ me
    pub none : a.fresh ≡ None

  stopped : (x : Field × LeaseKind) (xs : List (Field × LeaseKind)) (s : Server) (before : List Grant) (e : End) → (e ≡ end.All → ⊥) → GrantsUpTo s.given before → IsGivenFor (x ∷ xs) before s.me s.given (record { server = s; grants = before; fresh = None; end = e })
  stopped x xs s before e other b = record { new = []; split = sym (append-nil before); some = refl; numbers = b; rises = omega arith; here = refl; none = refl }

  fits_item : (x : Field × LeaseKind) (s : Server) (before : List Grant) → kind_for x.0 x.1 ≡ x.1 → KeptUpTo s.me s.given kept → GrantsUpTo s.given before → (is_of_item x (grant_of by x.0 (kind_for x.0 x.1) s) && is_new kept before (grant_of by x.0 (kind_for x.0 x.1) s)) ≡ true
  fits_item x s before kind k b =
      joined _ _ (joined _ _ (joined _ _ (same_field_self x.0) (ap (λ y. same_kind y x.1) kind ∙ same_kind_self x.1)) (value_is by s.records x.0))
      (new_number kept before s.me s.given (grant_of by x.0 (kind_for x.0 x.1) s) refl k b (omega arith))

  more_up : (s : Server) (before : List Grant) (field : Field) (kind : LeaseKind) (promise : Option Bool) → GrantsUpTo s.given before → GrantsUpTo (with_lease by field kind promise s).given (before ++ grant_of by field kind s ∷ [])
  more_up s before field kind promise b g i = elim (In-append g before (grant_of by field kind s ∷ []) i) as (λ _. g.no.count ≤ s.given + 1) [
    | inl j ↦ let q = b g j in omega arith
    | inr j ↦ elim j as (λ _. g.no.count ≤ s.given + 1) [ inl e ↦ let q = ap (λ (y : Grant). y.no.count) e in omega arith | inr z ↦ absurd z ]
  ]

  went_on : (x : Field × LeaseKind) (xs : List (Field × LeaseKind)) (s : Server) (before : List Grant) (a : Asking) → (is_of_item x (grant_of by x.0 (kind_for x.0 x.1) s) && is_new kept before (grant_of by x.0 (kind_for x.0 x.1) s)) ≡ true → IsGivenFor xs (before ++ grant_of by x.0 (kind_for x.0 x.1) s ∷ []) s.me (s.given + 1) a
      → IsGivenFor (x ∷ xs) before s.me s.given a
  went_on x xs s before a good r =
      let g = grant_of by x.0 (kind_for x.0 x.1) s in
      let up = r.rises in
      record {
        new = g ∷ r.new;
        split = r.split ∙ append_assoc before (g ∷ []) r.new;
        some = joined _ _ good r.some;
        numbers = r.numbers;
        rises = omega arith;
        here = r.here;
        none = r.none;
      }

  ended_early : (x : Field × LeaseKind) (s : Server) (at : End) → AskEnds by x s at → at ≡ end.All → ⊥
  ended_early x s at (waits n mine e) q = absurd (cc)
  ended_early x s at (kept_off txn mine e) q = absurd (cc)
  ended_early x s at (elsewhere mine) q = not_all s (file_of x.0) q

  pub given_for : (items : Items) (s : Server) (before : List Grant) → ((x : Field × LeaseKind) → In x items → kind_for x.0 x.1 ≡ x.1) → KeptUpTo s.me s.given kept → GrantsUpTo s.given before → IsGivenFor items before s.me s.given (ask_from by items s before)
  given_for = each_item by (λ items s before a. ((x : Field × LeaseKind) → In x items → kind_for x.0 x.1 ≡ x.1) → KeptUpTo s.me s.given kept → GrantsUpTo s.given before → IsGivenFor items before s.me s.given a)
      (λ s before kinds k b. record { new = []; split = sym (append-nil before); some = refl; numbers = b; rises = omega arith; here = refl; none = refl })
      (λ x xs s before promise a mine e p kinds k b. went_on x xs s before a (fits_item x s before (kinds x (inl refl)) k b) (p (λ y i. kinds y (inr i)) (λ y i at. let q = k y i at in omega arith) (more_up s before x.0 (kind_for x.0 x.1) promise b)))
      (λ x xs s before at why kinds k b. stopped x xs s before at (ended_early x s at why) b)
