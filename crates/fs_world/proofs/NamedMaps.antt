-- Each server that a changed map names was named before, or is the one that changed it.
use Rattle.std.proofs.Common.{◌≡◌, ◌∙◌, ◌<◌, ℕ, Bool, true, false, List, [], ◌∷◌, ◌++◌, Option, Some, None, refl, sym, subst, cond, inl}
use Rattle.std.proofs.Common.{inr, arith}
use Rattle.std.specs.Prelude.{option_map, unwrap_or}
use Rattle.std.specs.Cmp.Lexicographic.{slice_cmp}
use Rattle.std.specs.FinMap.Entries.{by_order, put}
use Rattle.std.specs.Ordering.{nat_cmp}
use Rattle.std.specs.Prelude.{nat_eq}
use Rattle.std.specs.declared.cmp.Ordering.{Ordering}
use Rattle.std.specs.declared.cmp.Ordering.TheVariants.{Less, Equal, Greater}
use Rattle.fs_ident.specs.In.{In}
use Rattle.fs_ident.specs.Ordered.{Keyed}
use Rattle.fs_map.specs.Change.{turned}
use Rattle.fs_map.specs.Lists.{map_after_give, map_after_hint, map_after_take, piece_of, places_of, turns, with_turn}
use Rattle.fs_map.specs.Map.{Owners, after_take, begins, first_map, gives, longest, or_before, server_of}
use Rattle.fs_record.specs.declared.led_end.LedEnd.TheVariants as led
use Rattle.fs_server.specs.Leads.{moved_why}
use Rattle.fs_server.specs.Server.{moved, moved_at}
use Rattle.fs_server.specs.declared.state.Server.{Server}
use Rattle.fs_world.specs.Linked.{AreNamed, IsNamedEnd, IsNamedLed}

-- ## What a map tells

later_or : {V : Type 0} (e : List ℕ × V) (es : Keyed V) (later : Option (List ℕ × V)) (here : Bool) (o : Option (List ℕ × V))
    → ((x : List ℕ × V) → later ≡ Some x → In x es) → or_before later (cond here (Some e) None) ≡ o → (x : List ℕ × V) → o ≡ Some x
    → In x (e ∷ es)
later_or e es (Some y) here o g is x q = inr (g x (is ∙ q))
later_or e es None true o g is x q = let same : x ≡ e = cc in inl same
later_or e es None false o g is x q = absurd (cc)

pub longest_In : {V : Type 0} (listed : Keyed V) (id : List ℕ) (x : List ℕ × V) → longest listed id ≡ Some x → In x listed
longest_In [] id x h = absurd (cc)
longest_In (e ∷ es) id x h = later_or e es (longest es id) (begins e.0 id) (longest (e ∷ es) id) (λ y q. longest_In es id y q) refl x h

pub server_named : (servers : ℕ) (owners : Owners) (id : List ℕ) → 0 < servers → AreNamed servers owners → server_of owners id < servers
server_named servers owners id some h = at (longest owners id) (λ x e. longest_In owners id x e)
  where
    at : (o : Option (List ℕ × ℕ)) → ((x : List ℕ × ℕ) → o ≡ Some x → In x owners)
        → unwrap_or (option_map (λ (e : List ℕ × ℕ). e.1) o) 0 < servers
    at None g = some
    at (Some e) g = h e (g e refl)

pub moved_named : (servers : ℕ) (s : Server) (id : List ℕ) → 0 < servers → AreNamed servers s.map → IsNamedEnd servers (moved s id)
moved_named servers s id some h = at (longest s.map id) (λ x e. longest_In s.map id x e)
  where
    at : (o : Option (List ℕ × ℕ)) → ((x : List ℕ × ℕ) → o ≡ Some x → In x s.map) → IsNamedEnd servers (moved_at o)
    at None g = some
    at (Some e) g = h e (g e refl)

pub why_named : (servers : ℕ) (owners : Owners) (id : List ℕ) → 0 < servers → AreNamed servers owners
    → IsNamedLed servers (led.Again (moved_why (longest owners id)))
why_named servers owners id some h = at (longest owners id) (λ x e. longest_In owners id x e)
  where
    at : (o : Option (List ℕ × ℕ)) → ((x : List ℕ × ℕ) → o ≡ Some x → In x owners) → IsNamedLed servers (led.Again (moved_why o))
    at None g = some
    at (Some e) g = h e (g e refl)

-- ## A changed map

named_put : (servers : ℕ) (place : List ℕ) (v : ℕ) (listed : Owners) → v < servers → AreNamed servers listed
    → AreNamed servers (put (slice_cmp nat_cmp) place v listed)
named_put servers place v [] few h x (inl e) = subst (λ (y : List ℕ × ℕ). y.1 < servers) (sym e) few
named_put servers place v [] few h x (inr i) = absurd i
named_put servers place v (e ∷ es) few h x i = at (slice_cmp nat_cmp place e.0) (named_put servers place v es few (λ y j. h y (inr j))) x i
  where
    at : (r : Ordering) → AreNamed servers (put (slice_cmp nat_cmp) place v es)
        → AreNamed servers (by_order r ((place, v) ∷ e ∷ es) ((e.0, v) ∷ es) (e ∷ put (slice_cmp nat_cmp) place v es))
    at Less rest x (inl q) = subst (λ (y : List ℕ × ℕ). y.1 < servers) (sym q) few
    at Less rest x (inr i) = h x i
    at Equal rest x (inl q) = subst (λ (y : List ℕ × ℕ). y.1 < servers) (sym q) few
    at Equal rest x (inr i) = h x (inr i)
    at Greater rest x (inl q) = h x (inl q)
    at Greater rest x (inr i) = rest x i

turn_named : (servers : ℕ) (alike : ℕ → ℕ → Bool) (f : List ℕ → ℕ) (top place : List ℕ) (listed : Owners)
    → ((id : List ℕ) → f id < servers) → AreNamed servers listed → AreNamed servers (with_turn place (turned alike f top place) listed)
turn_named servers alike f top [] listed few h = h
turn_named servers alike f top (n ∷ ns) listed few h = at _
  where
    at : (b : Bool) → AreNamed servers (with_turn (n ∷ ns) (cond b (Some (f (n ∷ ns))) None) listed)
    at true = named_put servers (n ∷ ns) (f (n ∷ ns)) listed (few (n ∷ ns)) h
    at false = h

turns_named : (servers : ℕ) (alike : ℕ → ℕ → Bool) (f : List ℕ → ℕ) (top : List ℕ) (places : List (List ℕ))
    → ((id : List ℕ) → f id < servers) → AreNamed servers (turns alike f top places)
turns_named servers alike f top [] few x i = absurd i
turns_named servers alike f top (p ∷ ps) few x i =
    turn_named servers alike f top p (turns alike f top ps) few (turns_named servers alike f top ps few) x i

taken : (servers : ℕ) (owners : Owners) (me : ℕ) (prefix : List ℕ) (given : Keyed Bool) (id : List ℕ) → me < servers
    → AreNamed servers owners → after_take owners me prefix given id < servers
taken servers owners me prefix given id few h = at (gives prefix given id)
  where
    at : (b : Bool) → cond b me (server_of owners id) < servers
    at true = few
    at false = server_named servers owners id (omega (arith, few)) h

pub named_take : (servers : ℕ) (owners : Owners) (me : ℕ) (prefix : List ℕ) (given : Keyed Bool) → me < servers → AreNamed servers owners
    → AreNamed servers (map_after_take owners me prefix given)
named_take servers owners me prefix given few h x (inl e) =
    subst (λ (y : List ℕ × ℕ). y.1 < servers) (sym e) (taken servers owners me prefix given [] few h)
named_take servers owners me prefix given few h x (inr i) = turns_named servers nat_eq (after_take owners me prefix given) []
    (places_of owners ++ places_of given) (λ id. taken servers owners me prefix given id few h) x i

pub named_give : (servers : ℕ) (owners : Owners) (me : ℕ) (prefix : List ℕ) (to : ℕ) → to < servers → AreNamed servers owners
    → AreNamed servers (map_after_give owners me prefix to)
named_give servers owners me prefix to few h = named_take servers owners to prefix (piece_of owners me prefix) few h

pub named_hint : (servers : ℕ) (owners : Owners) (prefix : List ℕ) (to : ℕ) → to < servers → AreNamed servers owners
    → AreNamed servers (map_after_hint owners prefix to)
named_hint servers owners prefix to few h = named_take servers owners to prefix ((prefix, true) ∷ []) few h

pub named_first : (servers : ℕ) → 0 < servers → AreNamed servers first_map
named_first servers some x (inl e) = subst (λ (y : List ℕ × ℕ). y.1 < servers) (sym e) some
named_first servers some x (inr i) = absurd i
