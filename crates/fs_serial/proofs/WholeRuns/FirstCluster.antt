-- At the start everything is at the first server, and all parts hold.
use Rattle.std.proofs.Common.{◌≡◌, ℕ, zero, suc, ◌+◌, ◌==◌, Bool, true, false, List, [], ◌∷◌, ◌++◌, length, length-append, cond, refl, sym, ap, ◌∙◌, subst, inl, inr, arith, ◌<◌}
use Rattle.std.specs.Prelude.{◌⊎◌, Option, Some, None, is_some, option_map, slice_get, unwrap_or}
use Rattle.std.specs.List.{filter}
use Rattle.std.specs.Cmp.Lexicographic.{slice_cmp}
use Rattle.std.specs.FinMap.{empty, entries, get, get-empty}
use Rattle.std.specs.Ordering.{nat_cmp}
use Rattle.std.proofs.lemmas.Bool.Decides.{nat_tests}
use Rattle.std.proofs.lemmas.List.Elements.{filter-append}
use Rattle.fs_ident.specs.Ident.{parent}
use Rattle.fs_ident.specs.In.{In}
use Rattle.fs_ident.specs.Ordered.{Keyed}
use Rattle.fs_ident.proofs.Same.{after_zero, zero_before}
use Rattle.fs_field.specs.Table.{is_ordered}
use Rattle.fs_field.specs.declared.row.Row.{Row}
use Rattle.fs_map.specs.Lists.{places_of}
use Rattle.fs_map.specs.Map.{IsMap, begins, first_map, server_of}
use Rattle.fs_record.specs.Moving.{with_records}
use Rattle.fs_record.specs.Records.{RecordMap, first_records}
use Rattle.fs_record.specs.declared.record.Record.{Record}
use Rattle.fs_rows.specs.Granted.{with_rows}
use Rattle.fs_server.specs.Server.{first_server, is_mine}
use Rattle.fs_server.specs.declared.state.Server.{Server}
use Rattle.fs_serial.specs.Cluster.{Cluster, first_cluster, first_servers}
use Rattle.fs_serial.specs.Fresh.{IsMade}
use Rattle.fs_serial.specs.Joined.{with_all_of, with_rows_of}
use Rattle.fs_serial.specs.Owed.{ends_of}
use Rattle.fs_serial.specs.Places.{IsHome, PlacesHold}
use Rattle.fs_serial.specs.Seen.{counts_of, reaps_at, with_all}
use Rattle.fs_serial.specs.World.{World, WorldHolds}
use Rattle.fs_serial.proofs.OneServer.FirstWorld.{first_holds}
use Rattle.fs_serial.proofs.Places.Joining.{none_entered, one_server}
use Rattle.fs_serial.proofs.Places.PutRecords.{records_alone}
use Rattle.fs_serial.proofs.Lists.Servers.{In_at}

-- ## The servers

-- what stands at a place of a list with one more at its end
last_at : {X : Type 0} (xs : List X) (x : X) (k : ℕ) (y : X) → slice_get (xs ++ x ∷ []) k ≡ Some y → (slice_get xs k ≡ Some y) ⊎ ((k ≡ length xs) × (y ≡ x))
last_at [] x zero y e = let q : y ≡ x = cc in inr (refl, q)
last_at [] x (suc k) y e = absurd (cc)
last_at (z ∷ zs) x zero y e = inl e
last_at (z ∷ zs) x (suc k) y e = elim (last_at zs x k y e) as (λ _. (slice_get zs k ≡ Some y) ⊎ ((suc k ≡ length (z ∷ zs)) × (y ≡ x))) [ inl h ↦ inl h | inr h ↦ inr (ap suc h.0, h.1) ]

module _ (skew term : ℕ) where
  first_length : (n : ℕ) → length (first_servers n skew term) ≡ n
  first_length zero = refl
  first_length (suc n) = let q = first_length n in length-append (first_servers n skew term) (first_server n skew term ∷ []) ∙ omega arith

  pub first_at : (n k : ℕ) (s : Server) → slice_get (first_servers n skew term) k ≡ Some s → s ≡ first_server k skew term
  first_at zero k s e = absurd (cc)
  first_at (suc n) k s e = elim (last_at (first_servers n skew term) (first_server n skew term) k s e) as (λ _. s ≡ first_server k skew term) [
    | inl h ↦ first_at n k s h
    | inr h ↦ h.1 ∙ ap (λ j. first_server j skew term) (sym (h.0 ∙ first_length n))
  ]

-- ## What they have

no_rows : (ss : List Server) → ((s : Server) → In s ss → s.rows ≡ []) → with_rows_of ss [] ≡ []
no_rows [] h = refl
no_rows (s ∷ ss) h = ap (λ (rs : List Row). with_rows_of ss (with_rows rs [])) (h s (inl refl)) ∙ no_rows ss (λ t i. h t (inr i))

none_more : (b : Bool) (m : RecordMap) → b ≡ false → with_records (entries (first_records b)) m ≡ m
none_more true m e = absurd (cc)
none_more false m e = ap (λ (es : Keyed Record). with_records es m) none_entered

first_all_of : (n skew term : ℕ) → with_all_of (first_servers (suc n) skew term) empty ≡ first_records true
first_all_of zero skew term = records_alone (first_records true)
first_all_of (suc n) skew term = one_server (first_servers (suc n) skew term) (first_server (suc n) skew term) empty ∙ none_more (suc n == 0) (with_all_of (first_servers (suc n) skew term) empty) (after_zero n) ∙ first_all_of n skew term

-- ## Where it is

begins_so : (id : List ℕ) → begins [] id ≡ true
begins_so [] = refl
begins_so (n ∷ ns) = refl

at_first : (id : List ℕ) → server_of first_map id ≡ 0
at_first id = ap (λ b. unwrap_or (option_map (λ (e : List ℕ × ℕ). e.1) (cond b (Some ([], 0)) None)) 0) (begins_so id)

first_is_map : IsMap first_map
first_is_map = record {
  ordered = refl;
  first = (0, [], refl);
  below = λ e i. begins_so e.0;
  telling = λ e i above up b alike. elim i as (λ _. ⊥) [
    | inl q ↦ let top : parent e.0 ≡ None = ap (λ (x : List ℕ × ℕ). parent x.0) q in absurd (cc)
    | inr z ↦ z
  ];
}

mine_if : (k skew term : ℕ) (id : List ℕ) → is_mine (first_server k skew term) id ≡ (0 == k)
mine_if k skew term id = ap (λ n. n == k) (at_first id)

one_more : (b : Bool) (s : Server) (n : ℕ) → n ≡ 1 → b ≡ false → n + length (cond b (s ∷ []) []) ≡ 1
one_more true s n e h = absurd (cc)
one_more false s n e h = omega arith

-- exactly one of them manages the identifier
first_manages : (n skew term : ℕ) (id : List ℕ) → length (filter (λ (s : Server). is_mine s id) (first_servers (suc n) skew term)) ≡ 1
first_manages zero skew term id = ap (λ b. length (cond b (first_server 0 skew term ∷ []) [])) (mine_if 0 skew term id)
first_manages (suc n) skew term id =
    ap length (filter-append (λ (s : Server). is_mine s id) (first_servers (suc n) skew term) (first_server (suc n) skew term ∷ []))
    ∙ length-append (filter (λ (s : Server). is_mine s id) (first_servers (suc n) skew term)) (filter (λ (s : Server). is_mine s id) (first_server (suc n) skew term ∷ []))
    ∙ one_more (is_mine (first_server (suc n) skew term) id) (first_server (suc n) skew term) (length (filter (λ (s : Server). is_mine s id) (first_servers (suc n) skew term))) (first_manages n skew term id) (mine_if (suc n) skew term id ∙ zero_before n)

is_first : (k : ℕ) → (k == 0) ≡ true → (0 == k) ≡ true
is_first k h = grind (arith, nat_tests)

first_record : (k skew term : ℕ) (id : List ℕ) → is_some (get (first_records (k == 0)) id) ≡ true → is_mine (first_server k skew term) id ≡ true
first_record k skew term id h =
    elim (k == 0) as (λ b. (k == 0) ≡ b → is_some (get (first_records b) id) ≡ true → is_mine (first_server k skew term) id ≡ true) [
      | true ↦ λ t i. mine_if k skew term id ∙ is_first k t
      | false ↦ λ t i. let none : false ≡ true = ap is_some (sym (get-empty (slice_cmp nat_cmp) id)) ∙ i in absurd (cc)
    ] refl h

root_made : (place : List ℕ) → In place (places_of first_map) → IsMade [] place
root_made place i = elim i as (λ _. IsMade [] place) [ inl e ↦ subst (IsMade []) (sym e) refl | inr z ↦ absurd z ]

first_home : (k skew term : ℕ) → IsHome [] (first_server k skew term)
first_home k skew term = record {
  map = first_is_map;
  listed = root_made;
  rows = λ r i. absurd i;
  records = first_record k skew term;
  ordered = refl;
}

-- ## All of them

module _ (n skew term greatest : ℕ) where
  abbrev c : Cluster
  c = first_cluster (suc n) skew term

  -- each is one of the first servers
  pub each : (P : Server → Type 0) → ((k : ℕ) → P (first_server k skew term)) → (s : Server) → In s c.servers → P s
  each P h s i = let q = In_at c.servers s i in subst P (sym (first_at skew term (suc n) q.place s q.is)) (h q.place)

  no_row : with_rows_of c.servers [] ≡ []
  no_row = no_rows c.servers (each (λ s. s.rows ≡ []) (λ k. refl))

  -- the first map names the first server, which there is
  some_first : (id : List ℕ) → server_of first_map id < length c.servers
  some_first id = subst (λ m. m < length c.servers) (sym (at_first id)) (let more = length-append (first_servers n skew term) (first_server n skew term ∷ []) in omega arith)

  pub first_places : PlacesHold c
  first_places = record {
    one = λ id. let q = first_manages n skew term id in omega arith;
    homes = each (IsHome []) (λ k. first_home k skew term);
    sent = λ p i. absurd i;
    goes = λ f i. absurd i;
    ordered = ap is_ordered no_row;
    numbered = λ k s e. ap (λ (t : Server). t.me) (first_at skew term (suc n) k s e);
    named = each (λ s. (id : List ℕ) → server_of s.map id < length c.servers) (λ k id. some_first id);
  }

  no_reaps : (k : ℕ) (o : Option Server) → slice_get c.servers k ≡ o → reaps_at o ≡ 0
  no_reaps k None e = refl
  no_reaps k (Some s) e = ap (λ (t : Server). t.reaps) (first_at skew term (suc n) k s e)

  -- as each server sees it, in the words of the messages alone
  abbrev pub bare : Server → World
  bare s = record {
    server = with_all s c;
    counts = counts_of c.servers;
    decided = [];
    journal = [];
    replied = λ x. [];
    ends = λ x. ends_of (c.lines x);
  }

  first_view : (k : ℕ) → WorldHolds greatest (bare (first_server k skew term))
  first_view k = first_holds greatest term (with_all (first_server k skew term) c) (counts_of c.servers) no_row (first_all_of n skew term) refl (λ j. no_reaps j (slice_get c.servers j) refl) (omega arith)

  pub bare_holds : (s : Server) → In s c.servers → WorldHolds greatest (bare s)
  bare_holds = each (λ s. WorldHolds greatest (bare s)) first_view
