-- What was done, undone.
use Rattle.std.proofs.Common.{◌≡◌, ℕ, Bool, true, false, not, cond, List, [], ◌∷◌, ◌++◌, Option, Some, None, refl, sym, ap, ◌∙◌}
use Rattle.std.specs.Prelude.{unwrap_or}
use Rattle.std.specs.Cmp.{alike_right, eq_by_cmp_equiv}
use Rattle.std.specs.Ordering.{is_eq}
use Rattle.std.specs.FinMap.Entries.{find, put, where_key, is_sorted-where_key, find-put, find-where_key, find_tied, same_entries}
use Rattle.fs_ident.specs.declared.actor.Peer.{Peer}
use Rattle.fs_ident.proofs.Booleans.{equal_is, held, holds}
use Rattle.fs_window.specs.declared.link.Before.{Before}
use Rattle.fs_window.specs.declared.link.Link.{Link}
use Rattle.fs_window.specs.declared.undo.Step.{Step}
use Rattle.fs_window.specs.Peers.{peer_cmp, same_peer, ByPeer, are_peers_in_order}
use Rattle.fs_window.specs.Post.{Links}
use Rattle.fs_window.specs.Undo.{link_before, restored_from, restored, ends_undone, undone}
use Rattle.fs_window.proofs.Actors.{tied_self}
use Rattle.fs_window.proofs.ByActor.{ordered_put}
use Rattle.fs_window.proofs.PeerOrder.{peer_total, peer_same}

-- entries that answer alike are the same
alike : (es fs : ByPeer Link) → are_peers_in_order es ≡ true → are_peers_in_order fs ≡ true → ((q : Peer) → find peer_cmp q es ≡ find peer_cmp q fs) → es ≡ fs
alike es fs h k e = same_entries peer_cmp peer_total peer_same es fs (held _ h) (held _ k) e

-- the value at an actor that is not told from another one's
tied_find : (es : ByPeer Link) (q peer : Peer) → same_peer q peer ≡ true → find peer_cmp peer es ≡ find peer_cmp q es
tied_find es q peer t = find_tied peer_cmp peer_total q peer (equal_is _ t) es

put_twice : (b : Bool) (l old : Link) (o : Option Link) → (b ≡ true → o ≡ Some old) → cond b (Some old) (cond b (Some l) o) ≡ o
put_twice true l old o h = sym (h refl)
put_twice false l old o h = refl

pub put_back : (es : ByPeer Link) (peer : Peer) (old l : Link) → are_peers_in_order es ≡ true → find peer_cmp peer es ≡ Some old → put peer_cmp peer old (put peer_cmp peer l es) ≡ es
put_back es peer old l h e = alike _ es (ordered_put peer old _ (ordered_put peer l es h)) h (λ q.
    find-put peer_cmp peer_total q peer old (put peer_cmp peer l es)
    ∙ ap (cond (same_peer q peer) (Some old)) (find-put peer_cmp peer_total q peer l es)
    ∙ put_twice (same_peer q peer) l old (find peer_cmp q es) (λ t. sym (tied_find es q peer t) ∙ e))

-- without the link of an actor
pub ordered_without : (peer : Peer) (es : ByPeer Link) → are_peers_in_order es ≡ true → are_peers_in_order (where_key peer_cmp (λ other. not (same_peer peer other)) es) ≡ true
ordered_without peer es h = holds _ (is_sorted-where_key peer_cmp (λ other. not (same_peer peer other)) es (held _ h))

taken_out : (b : Bool) (l : Link) (o : Option Link) → (b ≡ true → o ≡ None) → cond (not b) (cond b (Some l) o) None ≡ o
taken_out true l o h = sym (h refl)
taken_out false l o h = refl

pub take_out : (es : ByPeer Link) (peer : Peer) (l : Link) → are_peers_in_order es ≡ true → find peer_cmp peer es ≡ None → where_key peer_cmp (λ other. not (same_peer peer other)) (put peer_cmp peer l es) ≡ es
take_out es peer l h e = alike _ es (ordered_without peer _ (ordered_put peer l es h)) h (λ q.
    find-where_key peer_cmp (λ other. not (same_peer peer other)) q (λ x t. ap (λ r. not (is_eq r)) (sym (alike_right peer_total q x peer t))) (put peer_cmp peer l es)
    ∙ ap (λ b. cond (not b) (find peer_cmp q (put peer_cmp peer l es)) None) ((eq_by_cmp_equiv peer_total).symm peer q)
    ∙ ap (λ o. cond (not (same_peer q peer)) o None) (find-put peer_cmp peer_total q peer l es)
    ∙ taken_out (same_peer q peer) l (find peer_cmp q es) (λ t. sym (tied_find es q peer t) ∙ e))

found_put : (es : ByPeer Link) (peer : Peer) (l : Link) → find peer_cmp peer (put peer_cmp peer l es) ≡ Some l
found_put es peer l = find-put peer_cmp peer_total peer peer l es ∙ ap (λ b. cond b (Some l) (find peer_cmp peer es)) (tied_self peer)

-- a link that changed is as it was
pub restored_changed : (old new : ByPeer Link) (peer : Peer) (was l : Link) (b : Before) → are_peers_in_order old ≡ true → find peer_cmp peer old ≡ Some was → new ≡ put peer_cmp peer l old → link_before b l ≡ was
    → restored new (record { peer = peer; before = Some b }) ≡ old
restored_changed old new peer was l b h e is back =
    ap (λ (es : ByPeer Link). restored es (record { peer = peer; before = Some b })) is
    ∙ ap (λ (o : Option Link). restored_from o (put peer_cmp peer l old) peer (Some b)) (found_put old peer l)
    ∙ ap (λ (x : Link). put peer_cmp peer x (put peer_cmp peer l old)) back
    ∙ put_back old peer was l h e

-- a link that was made is not there
pub restored_made : (old new : ByPeer Link) (peer : Peer) (l : Link) → are_peers_in_order old ≡ true → find peer_cmp peer old ≡ None → new ≡ put peer_cmp peer l old
    → restored new (record { peer = peer; before = None }) ≡ old
restored_made old new peer l h e is =
    ap (λ (es : ByPeer Link). restored es (record { peer = peer; before = None })) is
    ∙ ap (λ (o : Option Link). restored_from o (put peer_cmp peer l old) peer None) (found_put old peer l)
    ∙ take_out old peer l h e

-- the last step is undone first
pub undone-push : (xs : List Step) (x : Step) (ends : ByPeer Link) → ends_undone (xs ++ x ∷ []) ends ≡ ends_undone xs (restored ends x)
undone-push [] x ends = refl
undone-push (y ∷ ys) x ends = ap (λ (es : ByPeer Link). restored es y) (undone-push ys x ends)

-- what is restored is in order
pub ordered_restored : (ends : ByPeer Link) (x : Step) → are_peers_in_order ends ≡ true → are_peers_in_order (restored ends x) ≡ true
ordered_restored ends x h = go (find peer_cmp x.peer ends) x.before
  where
    go : (o : Option Link) (b : Option Before) → are_peers_in_order (restored_from o ends x.peer b) ≡ true
    go None b = h
    go (Some l) None = ordered_without x.peer ends h
    go (Some l) (Some b) = ordered_put x.peer (link_before b l) ends h

-- the same where the link is told by what stands there, or a new one
pub restored_told : (old new : ByPeer Link) (peer : Peer) (here none : Link) (change : Link → Link) (b : Before) → are_peers_in_order old ≡ true → find peer_cmp peer old ≡ Some here
    → new ≡ put peer_cmp peer (change (unwrap_or (find peer_cmp peer old) none)) old → link_before b (change (unwrap_or (find peer_cmp peer old) none)) ≡ unwrap_or (find peer_cmp peer old) none
    → restored new (record { peer = peer; before = Some b }) ≡ old
restored_told old new peer here none change b h e is back =
    let was = unwrap_or (find peer_cmp peer old) none in
    let same : here ≡ was = sym (ap (λ (o : Option Link). unwrap_or o none) e) in
    restored_changed old new peer was (change was) b h (e ∙ ap (λ (l : Link). Some l) same) is back

-- a step that was taken at a link that stands there
pub restored_here : (ends new : ByPeer Link) (x : Step) (b : Before) (l : Link) → x.before ≡ Some b → find peer_cmp x.peer ends ≡ Some l → new ≡ put peer_cmp x.peer (link_before b l) ends → new ≡ restored ends x
restored_here ends new x b l was here is =
    is ∙ sym (ap (λ (o : Option Before). restored_from (Some l) ends x.peer o) was) ∙ sym (ap (λ (o : Option Link). restored_from o ends x.peer x.before) here)

-- one more step is noted, and all are undone
pub undone_noted : (me : Peer) (width : ℕ) (steps noted : List Step) (x : Step) (old mid new : ByPeer Link) (s : Links) → noted ≡ steps ++ x ∷ [] → new ≡ mid → restored mid x ≡ old → record { me = me; width = width; ends = old } ≡ s
    → undone noted (record { me = me; width = width; ends = new }) ≡ undone steps s
undone_noted me width steps noted x old mid new s more same back was =
    ap (λ (xs : List Step). undone xs (record { me = me; width = width; ends = new })) more
    ∙ ap (λ (es : ByPeer Link). undone (steps ++ x ∷ []) (record { me = me; width = width; ends = es })) same
    ∙ ap (λ (es : ByPeer Link). links_of es) (undone-push steps x mid ∙ ap (λ (es : ByPeer Link). ends_undone steps es) back)
    ∙ ap (λ (l : Links). undone steps l) was
  where
    links_of : ByPeer Link → Links
    links_of es = record { me = me; width = width; ends = es }

-- one step less is left
pub undone_next : (steps left : List Step) (x : Step) (ends new total : ByPeer Link) → steps ≡ left ++ x ∷ [] → new ≡ restored ends x → ends_undone steps ends ≡ total → ends_undone left new ≡ total
undone_next steps left x ends new total all is so_far =
    ap (λ (es : ByPeer Link). ends_undone left es) is ∙ sym (undone-push left x ends) ∙ sym (ap (λ (xs : List Step). ends_undone xs ends) all) ∙ so_far
