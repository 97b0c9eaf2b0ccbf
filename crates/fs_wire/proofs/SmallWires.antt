-- Truth values, kinds, modes, and the numbers of sessions, leases and transactions.
use Rattle.std.proofs.Common.{◌≡◌, ℕ, zero, suc, ◌+◌, ◌*◌, ◌<◌, ◌≤◌, ◌/◌, ◌%◌, ◌||◌, not, Bool, true, false, ltb, leb, eqb, List, [], ◌∷◌, ◌++◌, get_or, refl, sym, ap, subst, ◌∙◌, arith}
use Rattle.std.proofs.lemmas.Bool.{ltb-true, lt-ltb, eqb-true, leb-true, le-leb, and_parts, agree_below_at}
use Rattle.std.proofs.lemmas.Nat.{be_bytes_2}
use Rattle.fs_ident.specs.declared.actor.Session.{Session}
use Rattle.fs_ident.specs.declared.limits.TheConstants.{SESSIONS}
use Rattle.fs_ident.specs.declared.kind.Kind.{Kind}
use Rattle.fs_ident.specs.declared.kind.Kind.TheVariants.{File, Dir}
use Rattle.fs_modes.specs.declared.modes.Modes.{Modes}
use Rattle.fs_modes.specs.Modes.{number_of, acc_of, deny_of, has_access}
use Rattle.fs_modes.specs.declared.modes.Mode.{Mode}
use Rattle.fs_modes.specs.declared.modes.Mode.TheVariants.{AccR, AccW, AccD, DenyR, DenyW, DenyD}
use Rattle.fs_field.specs.declared.lease_kind.LeaseKind.{LeaseKind}
use Rattle.fs_field.specs.declared.lease_kind.LeaseKind.TheVariants.{Shared, Exclusive}
use Rattle.fs_wire.specs.Spelling.{two, truth, kind, lease_kind, mode, modes, session, lease, transaction, path_lease}
use Rattle.fs_wire.specs.Ranges.{FitsAlways, FitsModes, FitsSession, FitsLease, FitsTransaction, FitsPathLease}
use Rattle.fs_wire.specs.Tags.{plain}
use Rattle.fs_wire.specs.Readers.{map_at, one_at, choice_at, truth_of, truth_at}
use Rattle.fs_wire.specs.Reading.{kind_of, kind_at, lease_kind_of, lease_kind_at, mode_of, mode_at, is_modes_byte, modes_of, modes_at, is_session, session_of, session_at, lease_at, transaction_at, path_lease_at}
use Rattle.fs_wire.proofs.Readers.{IsOne, IsReader, then-reader, map-reader, one-reader}
use Rattle.fs_wire.proofs.Says.{Says, says-then, says-map, says-one}
use Rattle.fs_wire.proofs.Behind.{implied}
use Rattle.fs_wire.proofs.Wires.{Spelled, IsWire, choice-reader, pair-wire, remade}
use Rattle.fs_wire.proofs.NumberWires.{byte-wire, eight-wire}

-- ---- one byte below a limit, made into something

-- a number below the limit makes the value
abbrev IsMadeBelow : {A : Type 0} → ℕ → (ℕ → A) → A → Type 0
IsMadeBelow limit make v = (b : ℕ) × (b < limit) × (make b ≡ v)

module _ {A : Type 0} (limit : ℕ) (make : ℕ → A) (text : A → List ℕ) (some : 0 < limit)
    (spells : (b : ℕ) → b < limit → b ∷ [] ≡ text (make b)) (made : (v : A) → IsMadeBelow limit make v) where
  choice-says : (v : A) → Says (map_at make (choice_at limit)) v (text v) (plain (text v))
  unfolding choice_at
  choice-says v =
      let m : (b : ℕ) × (b < limit) × (make b ≡ v) = made v in
      let told : Says (map_at make (choice_at limit)) (make m.0) (m.0 ∷ []) (false ∷ []) = says-map make (says-one false (λ b. ltb b limit) m.0 (lt-ltb _ _ m.1)) in
      let texted : Says (map_at make (choice_at limit)) (make m.0) (text (make m.0)) (plain (text (make m.0))) = subst (λ (z : List ℕ). Says (map_at make (choice_at limit)) (make m.0) z (plain z)) (spells m.0 m.1) told in
      subst (λ (z : A). Says (map_at make (choice_at limit)) z (text z) (plain (text z))) m.2 texted

  pub choice-wire : IsWire (map_at make (choice_at limit)) FitsAlways text (λ v. plain (text v))
  choice-wire = record {
    reads = map-reader make (choice_at limit) (IsOne (λ b. ltb b limit)) (Spelled FitsAlways text) (choice-reader limit some)
        (λ b t one. record { fits = tt; text_is = one.text_is ∙ spells b (ltb-true b limit one.passes) });
    says = λ v fits. choice-says v;
  }

-- what is so of 0 and of 1
below_two : (P : ℕ → Type 0) → P 0 → P 1 → (b : ℕ) → b < 2 → P b
below_two P none one zero lt = none
below_two P none one (suc zero) lt = one
below_two P none one (suc (suc n)) lt = absurd (omega arith)

truth-made : (v : Bool) → IsMadeBelow 2 truth_of v
truth-made false = (0, omega arith, refl)
truth-made true = (1, omega arith, refl)

pub truth-wire : IsWire truth_at FitsAlways truth (λ v. plain (truth v))
unfolding truth_at
truth-wire = choice-wire 2 truth_of truth (omega arith) (below_two (λ b. b ∷ [] ≡ truth (truth_of b)) refl refl) truth-made

kind-made : (v : Kind) → IsMadeBelow 2 kind_of v
kind-made File = (0, omega arith, refl)
kind-made Dir = (1, omega arith, refl)

pub kind-wire : IsWire kind_at FitsAlways kind (λ v. plain (kind v))
unfolding kind_at
kind-wire = choice-wire 2 kind_of kind (omega arith) (below_two (λ b. b ∷ [] ≡ kind (kind_of b)) refl refl) kind-made

lease_kind-made : (v : LeaseKind) → IsMadeBelow 2 lease_kind_of v
lease_kind-made Shared = (0, omega arith, refl)
lease_kind-made Exclusive = (1, omega arith, refl)

pub lease_kind-wire : IsWire lease_kind_at FitsAlways lease_kind (λ v. plain (lease_kind v))
unfolding lease_kind_at
lease_kind-wire = choice-wire 2 lease_kind_of lease_kind (omega arith) (below_two (λ b. b ∷ [] ≡ lease_kind (lease_kind_of b)) refl refl) lease_kind-made

-- ---- modes

mode-made : (v : Mode) → IsMadeBelow 6 mode_of v
mode-made AccR = (0, omega arith, refl)
mode-made AccW = (1, omega arith, refl)
mode-made AccD = (2, omega arith, refl)
mode-made DenyR = (3, omega arith, refl)
mode-made DenyW = (4, omega arith, refl)
mode-made DenyD = (5, omega arith, refl)

mode-spells : (b : ℕ) → b < 6 → b ∷ [] ≡ mode (mode_of b)
mode-spells zero lt = refl
mode-spells (suc zero) lt = refl
mode-spells (suc (suc zero)) lt = refl
mode-spells (suc (suc (suc zero))) lt = refl
mode-spells (suc (suc (suc (suc zero)))) lt = refl
mode-spells (suc (suc (suc (suc (suc zero))))) lt = refl
mode-spells (suc (suc (suc (suc (suc (suc n)))))) lt = absurd (omega arith)

pub mode-wire : IsWire mode_at FitsAlways mode (λ v. plain (mode v))
unfolding mode_at
mode-wire = choice-wire 6 mode_of mode (omega arith) mode-spells mode-made

abbrev byte_of : Modes → ℕ
byte_of m = acc_of m + deny_of m * 8

abbrev is_byte_again : ℕ → Bool
is_byte_again b = eqb b (byte_of (modes_of b))

abbrev is_closed_or_has : ℕ → Bool
is_closed_or_has b = not (is_modes_byte b) || has_access (modes_of b)

-- what is said of six bits: the byte of them is read as them
abbrev IsByteOf : Bool → Bool → Bool → Bool → Bool → Bool → Type 0
IsByteOf a b c d e f = ((a || b) || c) ≡ true → (is_modes_byte (number_of a b c + number_of d e f * 8) ≡ true) × (modes_of (number_of a b c + number_of d e f * 8) ≡ record { acc_r = a; acc_w = b; acc_d = c; deny_r = d; deny_w = e; deny_d = f })

three : (P : Bool → Bool → Bool → Type 0) → (P true true true × P true true false × P true false true × P true false false × P false true true × P false true false × P false false true × P false false false) → (a b c : Bool) → P a b c
three P h true true true = h.0
three P h true true false = h.1
three P h true false true = h.2
three P h true false false = h.3
three P h false true true = h.4
three P h false true false = h.5
three P h false false true = h.6
three P h false false false = h.7

six : (a b c d e f : Bool) → IsByteOf a b c d e f
six = three (λ a b c. (d e f : Bool) → IsByteOf a b c d e f) (
  three (λ d e f. IsByteOf true true true d e f) ((λ h. (refl, refl)), (λ h. (refl, refl)), (λ h. (refl, refl)), (λ h. (refl, refl)), (λ h. (refl, refl)), (λ h. (refl, refl)), (λ h. (refl, refl)), (λ h. (refl, refl))),
  three (λ d e f. IsByteOf true true false d e f) ((λ h. (refl, refl)), (λ h. (refl, refl)), (λ h. (refl, refl)), (λ h. (refl, refl)), (λ h. (refl, refl)), (λ h. (refl, refl)), (λ h. (refl, refl)), (λ h. (refl, refl))),
  three (λ d e f. IsByteOf true false true d e f) ((λ h. (refl, refl)), (λ h. (refl, refl)), (λ h. (refl, refl)), (λ h. (refl, refl)), (λ h. (refl, refl)), (λ h. (refl, refl)), (λ h. (refl, refl)), (λ h. (refl, refl))),
  three (λ d e f. IsByteOf true false false d e f) ((λ h. (refl, refl)), (λ h. (refl, refl)), (λ h. (refl, refl)), (λ h. (refl, refl)), (λ h. (refl, refl)), (λ h. (refl, refl)), (λ h. (refl, refl)), (λ h. (refl, refl))),
  three (λ d e f. IsByteOf false true true d e f) ((λ h. (refl, refl)), (λ h. (refl, refl)), (λ h. (refl, refl)), (λ h. (refl, refl)), (λ h. (refl, refl)), (λ h. (refl, refl)), (λ h. (refl, refl)), (λ h. (refl, refl))),
  three (λ d e f. IsByteOf false true false d e f) ((λ h. (refl, refl)), (λ h. (refl, refl)), (λ h. (refl, refl)), (λ h. (refl, refl)), (λ h. (refl, refl)), (λ h. (refl, refl)), (λ h. (refl, refl)), (λ h. (refl, refl))),
  three (λ d e f. IsByteOf false false true d e f) ((λ h. (refl, refl)), (λ h. (refl, refl)), (λ h. (refl, refl)), (λ h. (refl, refl)), (λ h. (refl, refl)), (λ h. (refl, refl)), (λ h. (refl, refl)), (λ h. (refl, refl))),
  three (λ d e f. IsByteOf false false false d e f) ((λ h. absurd cc), (λ h. absurd cc), (λ h. absurd cc), (λ h. absurd cc), (λ h. absurd cc), (λ h. absurd cc), (λ h. absurd cc), (λ h. absurd cc)),
)

open-fits : (b : ℕ) (t : List ℕ) → IsOne is_modes_byte b t → Spelled FitsModes modes (modes_of b) t
unfolding modes
open-fits b t one =
    let lt : b < 64 = ltb-true b 64 (and_parts (ltb b 64) (not (eqb (b % 8) 0)) one.passes).0 in
    let same : b ≡ byte_of (modes_of b) = eqb-true b (byte_of (modes_of b)) (agree_below_at is_byte_again (λ b. true) 64 b refl lt) in
    record {
      fits = implied (is_modes_byte b) (has_access (modes_of b)) (agree_below_at is_closed_or_has (λ b. true) 64 b refl lt) one.passes;
      text_is = one.text_is ∙ ap (λ (z : ℕ). z ∷ []) same;
    }

modes-says : (m : Modes) → FitsModes m → Says modes_at m (modes m) (plain (modes m))
unfolding modes_at modes
modes-says m fits =
    let s = six m.acc_r m.acc_w m.acc_d m.deny_r m.deny_w m.deny_d fits in
    let made : Says modes_at (modes_of (byte_of m)) (byte_of m ∷ []) (false ∷ []) = says-map modes_of (says-one false is_modes_byte (byte_of m) s.0) in
    subst (λ (z : Modes). Says modes_at z (byte_of m ∷ []) (false ∷ [])) s.1 made

pub modes-wire : IsWire modes_at FitsModes modes (λ m. plain (modes m))
unfolding modes_at
modes-wire = record {
  reads = map-reader modes_of (one_at false is_modes_byte) (IsOne is_modes_byte) (Spelled FitsModes modes) (one-reader false is_modes_byte 1 (omega arith) refl) open-fits;
  says = modes-says;
}

-- ---- sessions

-- the two bytes of a session's number
session-text : (high low : ℕ) → high < 256 → low < 256 → high ∷ low ∷ [] ≡ two (high * 256 + low)
unfolding two
session-text high low lh ll = sym (be_bytes_2 (high ∷ low ∷ []) (high * 256 + low) refl are (omega arith))
  where
    are : (i : ℕ) → get_or (high ∷ low ∷ []) i 0 < 256
    are zero = lh
    are (suc zero) = ll
    are (suc (suc i)) = omega arith

session-range : (high low : ℕ) → is_session high low ≡ true → FitsSession (session_of high low)
session-range high low e =
    let p = and_parts (leb 1 (high * 256 + low)) (leb (high * 256 + low) SESSIONS) e in
    (leb-true _ _ p.0, leb-true _ _ p.1)

session-within : (high low : ℕ) → 1 ≤ high * 256 + low → high * 256 + low ≤ SESSIONS → is_session high low ≡ true
session-within high low a b = rw (le-leb 1 (high * 256 + low) a, le-leb (high * 256 + low) SESSIONS b) refl

session-reads : IsReader session_at (Spelled FitsSession session)
unfolding session_at
session-reads = then-reader (choice_at 4) (λ high. map_at (session_of high) (one_at false (is_session high))) (IsOne (λ b. ltb b 4)) (Spelled FitsSession session) (choice-reader 4 (omega arith))
    (λ high t q. map-reader (session_of high) (one_at false (is_session high)) (IsOne (is_session high)) (λ s u. Spelled FitsSession session s (t ++ u))
    (one-reader false (is_session high) 1 (omega arith) (agree_below_at (λ b. is_session b 1) (λ b. true) 4 high refl (ltb-true high 4 q.passes)))
    (λ low u r. record {
      fits = session-range high low r.passes;
      text_is = ap (λ (z : List ℕ). z ++ u) q.text_is ∙ ap (λ (z : List ℕ). high ∷ z) r.text_is ∙ session-text high low q.below r.below;
    }))

session-says : (s : Session) → FitsSession s → Says session_at s (session s) (plain (session s))
unfolding session_at choice_at
session-says s fits =
    let high = s.0 / 256 in
    let low = s.0 % 256 in
    let whole : high * 256 + low ≡ s.0 = omega arith in
    let lt : high < 4 = omega arith in
    let made : Says session_at (session_of high low) (high ∷ low ∷ []) (false ∷ false ∷ []) =
    says-then (λ h. map_at (session_of h) (one_at false (is_session h))) (says-one false (λ b. ltb b 4) high (lt-ltb _ _ lt)) (says-map (session_of high) (says-one false (is_session high) low (session-within high low (omega (arith, whole)) (omega (arith, whole))))) in
    let texted : Says session_at (session_of high low) (two (high * 256 + low)) (plain (two (high * 256 + low))) = subst (λ (z : List ℕ). Says session_at (session_of high low) z (plain z)) (session-text high low (omega arith) (omega arith)) made in
    subst (λ (z : ℕ). Says session_at (record { 0 = z }) (two z) (plain (two z))) whole texted

pub session-wire : IsWire session_at FitsSession session (λ s. plain (session s))
session-wire = record { reads = session-reads; says = session-says }

-- ---- leases, transactions and path leases

pub lease-wire : IsWire lease_at FitsLease lease (λ l. plain (lease l))
unfolding lease_at
lease-wire = remade (λ x. record { server = x.0; count = x.1 }) (λ l. (l.server, l.count)) FitsLease lease (λ l. plain (lease l)) (pair-wire byte-wire eight-wire) (λ v f. f) (λ w f. f) (λ v. refl) (λ w s. s)

pub transaction-wire : IsWire transaction_at FitsTransaction transaction (λ l. plain (transaction l))
unfolding transaction_at
transaction-wire = remade (λ x. record { server = x.0; count = x.1 }) (λ l. (l.server, l.count)) FitsTransaction transaction (λ l. plain (transaction l)) (pair-wire byte-wire eight-wire) (λ v f. f) (λ w f. f) (λ v. refl) (λ w s. s)

pub path_lease-wire : IsWire path_lease_at FitsPathLease path_lease (λ l. plain (path_lease l))
unfolding path_lease_at
path_lease-wire = remade (λ x. record { server = x.0; count = x.1 }) (λ l. (l.server, l.count)) FitsPathLease path_lease (λ l. plain (path_lease l)) (pair-wire byte-wire eight-wire) (λ v f. f) (λ w f. f) (λ v. refl) (λ w s. s)
