-- The numbers of a session's operations.
use Rattle.std.specs.Prelude.{◌≡◌, ℕ, ◌+◌, Bool, false, ◌==◌, List, [], ◌∷◌, ◌++◌, map, filter}
use Rattle.fs_ident.specs.declared.actor.Session.{Session}
use Rattle.fs_ident.specs.declared.actor.Peer.{Peer}
use Rattle.fs_ident.specs.declared.actor.Peer.TheVariants.{Client, Server}
use Rattle.fs_msg.specs.declared.entry.Entry.{Entry}
use Rattle.fs_msg.specs.declared.item.Item.{Item}
use Rattle.fs_server.specs.Ships.{item_of}

abbrev pub is_session : Session → Peer → Bool
is_session by (Client s) = s.0 == by.0
is_session by p = false

-- the session's items of the journal
abbrev pub items_by : Session → List Item → List Item
items_by by journal = filter (λ (i : Item). is_session by i.by) journal

-- its items, and then its log: what it was told so far, in order
abbrev pub all_items : Session → List Item → List Entry → List Item
all_items by journal log = items_by by journal ++ map (item_of by) log

-- the numbers rise one by one, from the first up to the last
abbrev pub AreNumbered : ℕ → List Item → ℕ → Type 0
AreNumbered k [] next = k ≡ next
AreNumbered k (i ∷ is) next = (i.n ≡ k) × AreNumbered (k + 1) is next

-- the numbers of a session are 1, 2 and so on, without a gap
abbrev pub NumbersInOrder : Session → List Item → List Entry → ℕ → Type 0
NumbersInOrder by journal log next = AreNumbered 1 (all_items by journal log) next

-- what the session was told is in the journal, in order, and what is not there yet is in its log
abbrev pub RepliesKept : Session → List Item → List Entry → List Item → Type 0
RepliesKept by journal log replied = all_items by journal log ≡ replied

-- ## The reaps of servers

abbrev pub is_server : ℕ → Peer → Bool
is_server k (Server j) = j == k
is_server k p = false

-- the server's items of the journal
abbrev pub items_at : ℕ → List Item → List Item
items_at k journal = filter (λ (i : Item). is_server k i.by) journal

-- the numbers of each server's reaps are 1, 2 and so on, without a gap
abbrev pub ReapsInOrder : (ℕ → ℕ) → List Item → Type 0
ReapsInOrder reaps journal = (k : ℕ) → AreNumbered 1 (items_at k journal) (reaps k + 1)
