-- Actors, and where each stands, as the words of the command line tell them.
use Rattle.std.specs.Prelude.{ℕ, ◌+◌, ◌==◌, ◌&&◌, Bool, true, false, not, nat_eq, nat_lt, List, [], ◌∷◌, ◌++◌, length, take, drop, find, filter_map, position, Option, Some, None, option_and_then, option_map, if◌then◌else◌}
use Rattle.std.specs.List.{list_all}
use Rattle.std.specs.Cmp.Lexicographic.{pointwise}
use Rattle.fs_ident.specs.declared.actor.Peer.{Peer}
use Rattle.fs_ident.specs.declared.actor.Peer.TheVariants.{Server, Client}
use Rattle.fs_ident.specs.declared.limits.TheConstants.{SESSIONS}
use Rattle.fs_io.specs.declared.addr.Addr.{Addr}
use Rattle.fs_window.specs.Peers.{same_peer}
use Rattle.fs_words.specs.Numbers.{number_between, number_in}

-- an actor, and where it stands
abbrev pub Place : Type 0
Place = Peer × Addr

-- ## Words

-- the actor of this letter and number
abbrev pub actor_by : ℕ → List ℕ → Option Peer
actor_by letter digits =
    if letter == 115 then option_map Server (number_in 14 digits)
    else (if letter == 99 then option_map (λ n. Client (record { 0 = n })) (number_between 1 SESSIONS digits) else None)

-- `s0` or `c1`
abbrev pub actor_in : List ℕ → Option Peer
actor_in [] = None
actor_in (b ∷ bs) = actor_by b bs

-- what stands before the first such byte and behind it
abbrev pub parted : ℕ → List ℕ → Option (List ℕ × List ℕ)
parted b text = option_map (λ k. (take k text, drop (k + 1) text)) (position (λ x. x == b) text)

-- a number before such a byte, and what stands behind it
abbrev pub number_before : ℕ → ℕ → List ℕ → Option (ℕ × List ℕ)
number_before b most text = option_and_then (λ (p : List ℕ × List ℕ). option_map (λ n. (n, p.1)) (number_in most p.0)) (parted b text)

-- `127.0.0.1:7000`
abbrev pub addr_in : List ℕ → Option Addr
addr_in text =
    option_and_then (λ (a : ℕ × List ℕ).
    option_and_then (λ (b : ℕ × List ℕ).
    option_and_then (λ (c : ℕ × List ℕ).
    option_and_then (λ (d : ℕ × List ℕ).
    option_map (λ port. record { ip = a.0 ∷ b.0 ∷ c.0 ∷ d.0 ∷ []; port = port })
    (number_in 65535 d.1)) (number_before 58 255 c.1)) (number_before 46 255 b.1)) (number_before 46 255 a.1)) (number_before 46 255 text)

-- `s0=127.0.0.1:7000`
abbrev pub place_in : List ℕ → Option Place
place_in word =
    option_and_then (λ (p : List ℕ × List ℕ).
    option_and_then (λ who. option_map (λ at. (who, at)) (addr_in p.1)) (actor_in p.0)) (parted 61 word)

-- ## Several words

-- the places that words are
abbrev pub places_in : List (List ℕ) → List Place
places_in words = filter_map place_in words

-- where the actor stands
abbrev pub stand_of : Peer → List (List ℕ) → Option Addr
stand_of who words = option_map (λ (p : Place). p.1) (find (λ (p : Place). same_peer p.0 who) (places_in words))

-- neither the same actor nor the same address
abbrev pub is_apart : Place → Place → Bool
is_apart p q = not (same_peer p.0 q.0) && not (pointwise nat_eq p.1.ip q.1.ip && (p.1.port == q.1.port))

-- there are so many servers, and the actor is one of them or a client
abbrev pub is_among : ℕ → Peer → Bool
is_among servers (Server k) = nat_lt k servers
is_among servers (Client s) = true

-- it is a place that may stand behind these words
abbrev pub may_follow : ℕ → List (List ℕ) → Option Place → Bool
may_follow servers before None = false
may_follow servers before (Some p) = is_among servers p.0 && list_all (is_apart p) (places_in before)

-- how many of the words at the front are each a place that may stand behind those before
abbrev pub places_at_front : ℕ → List (List ℕ) → List (List ℕ) → ℕ
places_at_front servers before [] = 0
places_at_front servers before (w ∷ ws) =
    if may_follow servers before (place_in w) then places_at_front servers (before ++ w ∷ []) ws + 1
    else 0

-- where the actor stands, if all of the words are such places and one is its own
abbrev pub own_stand : ℕ → Peer → List (List ℕ) → Option Addr
own_stand servers who words = if places_at_front servers [] words == length words then stand_of who words else None

-- the places that the words of a node's command are
abbrev pub node_places : List (List ℕ) → List Place
node_places words = places_in (drop 6 words)
