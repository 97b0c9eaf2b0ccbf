-- The journal: items in the order in which they were admitted.
use Rattle.std.specs.Prelude.{◌≡◌, Bool, true, false, not, List, [], ◌∷◌}
use Rattle.fs_ident.specs.declared.actor.Session.{Session}
use Rattle.fs_ident.specs.declared.actor.Peer.{Peer}
use Rattle.fs_ident.specs.declared.actor.Peer.TheVariants.{Server, Client}
use Rattle.fs_model.specs.declared.op.Op.{Op}
use Rattle.fs_model.specs.declared.op.Op.TheVariants as op
use Rattle.fs_model.specs.Namespace.{NodeMap}
use Rattle.fs_model.specs.Step.{Stepped, step}
use Rattle.fs_msg.specs.declared.item.Item.{Item}

abbrev pub is_reap : Op → Bool
is_reap (op.Reap file session) = true
is_reap o = false

-- a server admits reaps of its own and nothing else, and a session never reaps
abbrev pub may_admit : Peer → Op → Bool
may_admit (Server k) o = is_reap o
may_admit (Client s) o = not (is_reap o)

-- the session that asked; of a reap the namespace does not ask who does it
abbrev pub asker : Peer → Session
asker (Server k) = record { 0 = 0 }
asker (Client s) = s

-- the namespace's step for the item
abbrev pub item_step : NodeMap → Item → Stepped
item_step m i = step m (asker i.by) i.op

-- from the first space the items, one after another, each of an actor that may admit it, give exactly their replies and
-- end in the last space
abbrev pub IsSerialRun : NodeMap → List Item → NodeMap → Type 0
IsSerialRun first [] last = first ≡ last
IsSerialRun first (i ∷ is) last =
    (may_admit i.by i.op ≡ true) × ((item_step first i).reply ≡ i.reply) × IsSerialRun (item_step first i).nodes is last

-- the spaces after each item
abbrev pub spaces_after : NodeMap → List Item → List NodeMap
spaces_after first [] = []
spaces_after first (i ∷ is) = (item_step first i).nodes ∷ spaces_after (item_step first i).nodes is
