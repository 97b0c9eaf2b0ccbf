-- An identifier for a new file, and the lease on its life.
use Rattle.std.proofs.Common.{◌≡◌, ◌==◌, ◌||◌, ℕ, ◌+◌, ◌≤◌, ◌^◌, leb, Bool, true, false, List, [], ◌∷◌, ◌++◌, length, ap, refl, sym, subst, ◌∙◌, arith}
use Rattle.std.proofs.lemmas.Bool.Decides.{nat_tests}
use Rattle.std.proofs.lemmas.List.Folds.{list_any-append}
use Rattle.std.specs.Prelude.{Option, Some, None, option_map, Ok}
use Rattle.std.specs.FinMap.{get}
use Rattle.fs_ident.specs.declared.actor.Session.{Session}
use Rattle.fs_ident.specs.Ident.{child}
use Rattle.fs_field.specs.declared.field.Field.TheVariants.{Life}
use Rattle.fs_field.specs.declared.lease_kind.LeaseKind.TheVariants.{Exclusive}
use Rattle.fs_field.specs.declared.row.Row.{Row}
use Rattle.fs_field.specs.Table.{borne_numbers, last_number}
use Rattle.fs_moderows.specs.Answer.{given_row}
use Rattle.fs_msg.specs.declared.answer.Grant.{Grant}
use Rattle.fs_msg.specs.declared.end.End.{End}
use Rattle.fs_msg.specs.declared.end.End.TheVariants as end
use Rattle.fs_record.specs.declared.error.FreshError.{FreshError}
use Rattle.fs_record.specs.declared.error.FreshError.TheVariants as fresh
use Rattle.fs_record.specs.Fresh.{fresh_number, is_borne}
use Rattle.fs_record.specs.Records.{next_of}
use Rattle.fs_record.proofs.NumbersRise.{number_least}
use Rattle.fs_rows.specs.Granted.{with_rows}
use Rattle.fs_rows.proofs.Bearing.{bears-with_rows, gift_goes}
use Rattle.fs_rows.proofs.Numbers.{given_new}
use Rattle.fs_server.specs.declared.grants.Grants.{Grants}
use Rattle.fs_server.specs.declared.state.Server.{Server}
use Rattle.fs_server.specs.Asks.{Asking, fresh_in, fresh_of, grant_of, with_lease}
use Rattle.fs_server.specs.Grants.{IsLent, end_without, got_by, lent_by, with_leases}
use Rattle.fs_server.specs.Plan.{IsNewGift, after_gift}
use Rattle.fs_server.specs.Rows.{AreRows}
use Rattle.fs_server.specs.Server.{next_number, end_of}
use Rattle.fs_server.proofs.Ends.{last_number-append}
use Rattle.fs_server.proofs.Kept.{put_rows}

-- the identifier ends with the number that was given
pub no_end : (dir id : List ℕ) (o : Option ℕ) → Some id ≡ option_map (child dir) o → last_number id ≡ None → ⊥
no_end dir id None e h = cc
no_end dir id (Some k) e h =
    let is : id ≡ child dir k = cc in
    let told : last_number id ≡ Some k = ap last_number is ∙ last_number-append dir k in
    let wrong : Some k ≡ None = sym told ∙ h in
    cc

pub given_number : (dir id : List ℕ) (o : Option ℕ) (k : ℕ) → Some id ≡ option_map (child dir) o → last_number id ≡ Some k → (o ≡ Some k) × (id ≡ child dir k)
given_number dir id None k e h = absurd (cc)
given_number dir id (Some j) k e h =
    let is : id ≡ child dir j = cc in
    let told : last_number id ≡ Some j = ap last_number is ∙ last_number-append dir j in
    let same : j ≡ k = cc in
    (ap Some same, is ∙ ap (child dir) same)

-- the rows that stand and those just given bear the same numbers, in whatever order
-- what is told of two tables, from what is told of each
pub both_borne : (k : ℕ) (a b c d : List ℕ) → is_borne a k ≡ is_borne c k → is_borne b k ≡ is_borne d k → is_borne (a ++ b) k ≡ is_borne (c ++ d) k
both_borne k a b c d p q =
    list_any-append (λ n. n == k) a b
    ∙ ap (λ x. x || is_borne b k) p
    ∙ ap (λ x. is_borne c k || x) q
    ∙ sym (list_any-append (λ n. n == k) c d)

pub same_borne : (dir told : List ℕ) (more rows : List Row) (k : ℕ) → ((j : ℕ) → is_borne told j ≡ is_borne (borne_numbers dir rows) j) → is_borne (told ++ borne_numbers dir more) k ≡ is_borne (borne_numbers dir (with_rows more rows)) k
same_borne dir told more rows k h =
    list_any-append (λ b. b == k) told (borne_numbers dir more)
    ∙ ap (λ b. b || is_borne (borne_numbers dir more) k) (h k)
    ∙ sym (list_any-append (λ b. b == k) (borne_numbers dir rows) (borne_numbers dir more))
    ∙ sym (bears-with_rows dir k more rows)

-- the rows stay in order where the identifier is given
pub givable : (by : Session) (dir id : List ℕ) (o : Option ℕ) (k : ℕ) (rows : List Row) (s : Server) → IsLent by rows s → o ≡ fresh_number s.records dir (borne_numbers dir (with_rows rows s.rows)) → o ≡ Some k → id ≡ child dir k
    → AreRows (with_lease by (Life id) Exclusive None (with_leases rows s)).rows
givable by dir id o k rows s l of e is =
    let free : is_borne (borne_numbers dir (with_rows rows s.rows)) k ≡ false = (number_least s.records dir (borne_numbers dir (with_rows rows s.rows)) k (sym of ∙ e)).free in
    subst (λ i. AreRows (with_lease by (Life i) Exclusive None (with_leases rows s)).rows) (sym is)
    (put_rows (given_row (next_number (with_leases rows s)) by (Life (child dir k)) Exclusive (end_of s) None) (with_rows rows s.rows) (given_new s.me (s.given + length rows) (with_rows rows s.rows) l.ready.server.numbers) (gift_goes by dir k Exclusive (with_rows rows s.rows) free) l.ready.table)

-- and the directory did not give it before
pub new_gift : (dir at : List ℕ) (k : ℕ) (rows : List Row) (s : Server) → fresh_number s.records dir (borne_numbers dir rows) ≡ Some k → at ≡ dir → IsNewGift (Some (at, k)) s.records
new_gift dir at k rows s e same = subst (λ d. next_of (get s.records d) ≤ k) (sym same) (number_least s.records dir (borne_numbers dir rows) k e).from

-- the answer with a fresh identifier
abbrev asking : Server → List Grant → List ℕ → List ℕ → ℕ → Server → Asking
asking srv grants file dir k s = record { server = record srv { records = after_gift (Some (dir, k)) s.records }; grants = grants; fresh = Some file; end = end.All }

pub given_fresh : (by : Session) (dir id file at : List ℕ) (k : ℕ) (o : Option ℕ) (lent new : Grants) (s : Server) → o ≡ Some k → id ≡ child dir k → file ≡ id → at ≡ dir
    → with_leases new.rows s ≡ with_lease by (Life id) Exclusive None (with_leases lent.rows s) → new.grants ≡ lent.grants ++ grant_of by (Life id) Exclusive (with_leases lent.rows s) ∷ []
    → got_by (record { lent = new; fresh = Some file; gift = Some (at, k); end = end.All }) s ≡ fresh_of by dir o (lent_by lent end.All s)
given_fresh by dir id file at k o lent new s e is f a rows grants =
    ap (λ srv. asking srv new.grants file at k s) rows
    ∙ ap (λ gs. asking (with_lease by (Life id) Exclusive None (with_leases lent.rows s)) gs file at k s) grants
    ∙ ap (λ i. asking (with_lease by (Life id) Exclusive None (with_leases lent.rows s)) (lent.grants ++ grant_of by (Life id) Exclusive (with_leases lent.rows s) ∷ []) i at k s) f
    ∙ ap (λ d. asking (with_lease by (Life id) Exclusive None (with_leases lent.rows s)) (lent.grants ++ grant_of by (Life id) Exclusive (with_leases lent.rows s) ∷ []) id d k s) a
    ∙ ap (λ i. asking (with_lease by (Life i) Exclusive None (with_leases lent.rows s)) (lent.grants ++ grant_of by (Life i) Exclusive (with_leases lent.rows s) ∷ []) i dir k s) is
    ∙ sym (ap (λ p. fresh_of by dir p (lent_by lent end.All s)) e)

-- the number of the lease would be above the greatest
pub spent_fresh : (by : Session) (dir id : List ℕ) (b : Bool) (o : Option ℕ) (a : Asking) → b ≡ true → Some id ≡ option_map (child dir) o → fresh_number a.server.records dir (borne_numbers dir a.server.rows) ≡ o → a.server.given + 1 ≡ 2 ^ 64 → leb (2 ^ 64) (fresh_in by dir b a).server.given ≡ true
spent_fresh by dir id b None a here e of full = absurd (cc)
spent_fresh by dir id b (Some k) a here e of full =
    let told : (fresh_in by dir b a).server.given ≡ a.server.given + 1 = ap (λ c. (fresh_in by dir c a).server.given) here ∙ ap (λ p. (fresh_of by dir p a).server.given) of in
    grind (arith, nat_tests)

-- the directory has no number left
none_left : (by : Session) (dir at : List ℕ) (b : Bool) (lent : Grants) (s : Server) → b ≡ true → fresh_number s.records dir (borne_numbers dir (with_rows lent.rows s.rows)) ≡ None → at ≡ dir
    → got_by (record { lent = lent; fresh = None; gift = None; end = end.NoIds at }) s ≡ fresh_in by dir b (lent_by lent end.All s)
none_left by dir at b lent s here of e =
    ap (λ d. got_by (record { lent = lent; fresh = None; gift = None; end = end.NoIds d }) s) e
    ∙ sym (ap (λ p. fresh_of by dir p (lent_by lent end.All s)) of)
    ∙ sym (ap (λ c. fresh_in by dir c (lent_by lent end.All s)) here)

-- no identifier is given, for either of the two reasons
pub ends_without : (by : Session) (dir at : List ℕ) (b : Bool) (none : FreshError) (e : End) (lent : Grants) (s : Server) → (none ≡ fresh.NoDir → b ≡ false) → (none ≡ fresh.NoIds → (b ≡ true) × (fresh_number s.records dir (borne_numbers dir (with_rows lent.rows s.rows)) ≡ None)) → Ok e ≡ end_without none at → at ≡ dir
    → got_by (record { lent = lent; fresh = None; gift = None; end = e }) s ≡ fresh_in by dir b (lent_by lent end.All s)
ends_without by dir at b fresh.NoDir e lent s dirs ids h q =
    let all : e ≡ end.All = cc in
    ap (λ d. got_by (record { lent = lent; fresh = None; gift = None; end = d }) s) all ∙ sym (ap (λ c. fresh_in by dir c (lent_by lent end.All s)) (dirs refl))
ends_without by dir at b fresh.NoIds e lent s dirs ids h q =
    let full : e ≡ end.NoIds at = cc in
    let left = ids refl in
    ap (λ d. got_by (record { lent = lent; fresh = None; gift = None; end = d }) s) full ∙ none_left by dir at b lent s left.0 left.1 q
ends_without by dir at b fresh.Memory e lent s dirs ids h q = absurd (cc)
