-- One actor's links change, or the messages between it and others: the links of all actors stay tied.
use Rattle.std.proofs.Common.{◌≡◌, ◌+◌, ◌<◌, ◌^◌, Bool, true, false, List, [], ◌∷◌, ◌++◌, length, Option, Some, None, refl, sym, ap, subst}
use Rattle.std.proofs.Common.{cond, ◌∙◌, append-nil, arith}
use Rattle.std.specs.Cmp.{eq_by_cmp_equiv}
use Rattle.std.specs.FinMap.{get}
use Rattle.std.specs.Prelude.{slice_get}
use Rattle.fs_ident.specs.In.{In}
use Rattle.fs_ident.specs.declared.actor.Peer.{Peer}
use Rattle.fs_ident.specs.declared.actor.Peer.TheVariants.{Server, Client}
use Rattle.fs_ident.proofs.Booleans.{equal_is}
use Rattle.fs_ident.proofs.Standing.{In-both}
use Rattle.fs_frag.specs.Cut.{cut_of}
use Rattle.fs_window.specs.declared.link.Link.{Link}
use Rattle.fs_window.specs.declared.packet.Packet.{Packet}
use Rattle.fs_window.specs.declared.sent.Sent.{Sent}
use Rattle.fs_window.specs.LinkEnd.{due_of}
use Rattle.fs_window.specs.OnTheWay.{IsPacketOf}
use Rattle.fs_window.specs.Peers.{peer_cmp, same_peer}
use Rattle.fs_window.specs.Post.{Links, WasSent, heard_on, is_peer, link_accepted, link_pushed, link_sent, link_with, links_sent, new_link}
use Rattle.fs_window.specs.Post.{no_links, post_accepted, post_due, post_pushed, pushed_to, with_link}
use Rattle.fs_window.proofs.Actors.{link_of_actor, links_of_actors, sent_to_actor, tied_self}
use Rattle.fs_window.proofs.ByActor.{links_changed, links_put}
use Rattle.fs_window.proofs.Lists.{some_is}
use Rattle.fs_window.proofs.PeerOrder.{peer_same, peer_total}
use Rattle.fs_msg.specs.Ranges.{FitsMessage}
use Rattle.fs_msg.specs.Spelling.{message}
use Rattle.fs_msg.specs.declared.msg.Msg.{Msg}
use Rattle.fs_serial.specs.declared.in_flight.InFlight.{InFlight}
use Rattle.fs_world.specs.Linked.{AreTied, GoesBetween, AreFirstOf, IsPair, IsPost, IsThere, between, downs_of, flying_between, post_of}
use Rattle.fs_world.specs.Linked.{state_post, ups_of}
use Rattle.fs_world.specs.Served.{SessionStates, link_width}
use Rattle.fs_world.specs.declared.servers.world.Served.{Served}
use Rattle.fs_world.proofs.LinkedPair.{BothWays, GoesElsewhere, IsDue, both_accepted, both_due, both_new, both_pushed, first_joined}
use Rattle.fs_world.proofs.LinkedPair.{pair_elsewhere, rest_of}

-- ## Actors

pub peer_is : (a b : Peer) → same_peer a b ≡ true → a ≡ b
peer_is a b e = peer_same a b (equal_is (peer_cmp a b) e)

pub other_way : (a b : Peer) → same_peer a b ≡ false → same_peer b a ≡ false
other_way a b e = (eq_by_cmp_equiv peer_total).symm b a ∙ e

pub apart : (a b : Peer) → same_peer a b ≡ false → a ≡ b → ⊥
apart a b e is = let same : same_peer a b ≡ true = subst (λ (c : Peer). same_peer a c ≡ true) is (tied_self a) in absurd (cc)

-- what holds of this actor and of all others holds of every one
pub each : (P : Peer → Type 0) (a : Peer) → P a → ((b : Peer) → same_peer b a ≡ false → P b) → (b : Peer) → P b
each P a here others b = either (same_peer b a) refl
  where
    either : (same : Bool) → same_peer b a ≡ same → P b
    either true e = subst P (sym (peer_is b a e)) here
    either false e = others b e

pub none_there : (p : Links) → ◌≡◌ {A = Option Links} (Some p) None → ⊥
none_there p e = absurd (cc)

-- ## One actor changes

-- the actor has these links now, all others theirs, and so it is with the messages between others; these packets are new
pub record Changes (a : Peer) (p : Links) (w v : Served) (more : List Sent) : Type 0 where
  pub here : post_of v a ≡ Some p
  pub there : (b : Peer) → same_peer b a ≡ false → post_of v b ≡ post_of w b
  pub ways : (b c : Peer) → same_peer b a ≡ false → same_peer c a ≡ false → between v b c ≡ between w b c
  pub packets : v.packets.sent ≡ w.packets.sent ++ more

-- its links fit those of all others
pub record FitsAll (a : Peer) (p : Links) (v : Served) (more : List Sent) : Type 0 where
  pub post : IsPost a p
  pub pairs : (b : Peer) (q : Links) → same_peer b a ≡ false → post_of v b ≡ Some q
      → BothWays a b (link_with p b) (link_with q a) (between v a b) (between v b a) v.packets.sent
  pub alone : (b : Peer) → same_peer b a ≡ false → post_of v b ≡ None → link_with p b ≡ new_link link_width
  pub sent : (x : Sent) → In x more → (x.from ≡ a) × GoesBetween v x

-- whoever was there is there
pub there_still : (a : Peer) (p : Links) (w v : Served) (more : List Sent) → Changes a p w v more → (b : Peer) → IsThere w b → IsThere v b
there_still a p w v more c b h = each (λ (x : Peer). IsThere w x → IsThere v x) a (λ k. (p, c.here)) (λ x e k. (k.0, c.there x e ∙ k.1)) b h

goes_still : (a : Peer) (p : Links) (w v : Served) (more : List Sent) (x : Sent) → Changes a p w v more → GoesBetween w x → GoesBetween v x
goes_still a p w v more x c h = record {
  from = there_still a p w v more c x.from h.from;
  to =
      there_still a p w v more c x.to h.to;
  apart = h.apart;
}

module _ (a : Peer) (p : Links) (w v : Served) (more : List Sent) (c : Changes a p w v more) (k : FitsAll a p v more) (h : AreTied w) where
  posts_then : (b : Peer) (q : Links) → post_of v b ≡ Some q → IsPost b q
  posts_then b = each (λ (x : Peer). (q : Links) → post_of v x ≡ Some q → IsPost x q) a
      (λ q e. subst (λ (r : Links). IsPost a r) (some_is p q (sym c.here ∙ e)) k.post)
      (λ x f q e. h.posts x q (sym (c.there x f) ∙ e)) b

  not_here : (b q : Peer) → same_peer b a ≡ false → GoesElsewhere b q more
  not_here b q e x i from to = apart b a e (sym from ∙ (k.sent x i).0)

  -- two others
  others_then : (x y : Peer) (r s : Links) → same_peer x a ≡ false → same_peer y a ≡ false → same_peer x y ≡ false → post_of v x ≡ Some r
      → post_of v y ≡ Some s → IsPair x y (link_with r y) (link_with s x) (between v x y) v.packets.sent
  others_then x y r s e f o i j =
      let old : IsPair x y (link_with r y) (link_with s x) (between w x y) w.packets.sent =
      h.pairs x y r s o (sym (c.there x e) ∙ i) (sym (c.there y f) ∙ j) in
      subst (λ (ps : List Sent). IsPair x y (link_with r y) (link_with s x) (between v x y) ps) (sym c.packets)
      (subst (λ (ms : List Msg). IsPair x y (link_with r y) (link_with s x) ms (w.packets.sent ++ more)) (sym (c.ways x y e f))
      (pair_elsewhere x y (link_with r y) (link_with s x) (between w x y) w.packets.sent more (not_here x y e) old))

  abbrev PairOf : Peer → Peer → Type 0
  PairOf x y = (r s : Links) → same_peer x y ≡ false → post_of v x ≡ Some r → post_of v y ≡ Some s
      → IsPair x y (link_with r y) (link_with s x) (between v x y) v.packets.sent

  from_here : (y : Peer) → PairOf a y
  from_here y r s o i j =
      subst (λ (q : Links). IsPair a y (link_with q y) (link_with s a) (between v a y) v.packets.sent) (some_is p r (sym c.here ∙ i))
      (k.pairs y s (other_way a y o) j).going

  to_here : (x : Peer) → PairOf x a
  to_here x r s o i j =
      subst (λ (q : Links). IsPair x a (link_with r a) (link_with q x) (between v x a) v.packets.sent) (some_is p s (sym c.here ∙ j))
      (k.pairs x r o i).coming

  pairs_then : (x y : Peer) → PairOf x y
  pairs_then x y =
      each (λ (x : Peer). PairOf x y) a (from_here y)
      (λ x e. each (λ (y : Peer). PairOf x y) a (to_here x) (λ y f r s o i j. others_then x y r s e f o i j) y) x

  abbrev AloneOf : Peer → Peer → Type 0
  AloneOf x y = (r : Links) → post_of v x ≡ Some r → post_of v y ≡ None → link_with r y ≡ new_link link_width

  gone_here : (x : Peer) → AloneOf x a
  gone_here x r i j = absurd (none_there p (sym c.here ∙ j))

  alone_then : (x y : Peer) → AloneOf x y
  alone_then x y =
      each (λ (y : Peer). AloneOf x y) a (gone_here x)
      (λ y f. each (λ (x : Peer). AloneOf x y) a
      (λ r i j. ap (λ (q : Links). link_with q y) (some_is r p (sym i ∙ c.here)) ∙ k.alone y f j)
      (λ x e r i j. h.alone x y r (sym (c.there x e) ∙ i) (sym (c.there y f) ∙ j)) x) y

  pub tied_changed : AreTied v
  tied_changed = record {
    posts = posts_then;
    pairs = λ x y r s o i j. pairs_then x y r s o i j;
    alone = λ x y r i j. alone_then x y r i j;
    between = λ x i. In-both x w.packets.sent more (GoesBetween v x) (λ j. goes_still a p w v more x c (h.between x j))
        (λ j. (k.sent x j).1) (subst (λ (ps : List Sent). In x ps) c.packets i);
  }

-- worlds with the same links, and the same messages and packets on their way
pub tied_alike : (w v : Served) → v.posts ≡ w.posts → v.sessions ≡ w.sessions → v.in_flight ≡ w.in_flight → v.packets.sent ≡ w.packets.sent
    → AreTied w → AreTied v
tied_alike w v posts sessions in_flight sent h = record {
  posts = posts_of;
  pairs = pairs_of;
  alone = alone_of;
  between =
      λ x i. goes x (h.between x (subst (λ (ps : List Sent). In x ps) sent i));
}
  where
    post_same : (a : Peer) → post_of v a ≡ post_of w a
    post_same (Server k) = ap (λ (ps : List Links). slice_get ps k) posts
    post_same (Client s) = ap (λ (m : SessionStates). state_post (get m s.0)) sessions

    way_same : (a b : Peer) → between v a b ≡ between w a b
    way_same (Client s) (Server k) = ap (λ (m : SessionStates). ups_of k (get m s.0)) sessions
    way_same (Server k) (Client s) = ap (λ (m : SessionStates). downs_of k (get m s.0)) sessions
    way_same (Server j) (Server k) = ap (λ (fs : List InFlight). flying_between j k fs) in_flight
    way_same (Client s) (Client t) = refl

    posts_of : (a : Peer) (p : Links) → post_of v a ≡ Some p → IsPost a p
    posts_of a p e = h.posts a p (sym (post_same a) ∙ e)

    pairs_of : (a b : Peer) (p q : Links) → same_peer a b ≡ false → post_of v a ≡ Some p → post_of v b ≡ Some q
        → IsPair a b (link_with p b) (link_with q a) (between v a b) v.packets.sent
    pairs_of a b p q e f g =
        subst (λ (ps : List Sent). IsPair a b (link_with p b) (link_with q a) (between v a b) ps) (sym sent)
        (subst (λ (ms : List Msg). IsPair a b (link_with p b) (link_with q a) ms w.packets.sent) (sym (way_same a b))
        (h.pairs a b p q e (sym (post_same a) ∙ f) (sym (post_same b) ∙ g)))

    alone_of : (a b : Peer) (p : Links) → post_of v a ≡ Some p → post_of v b ≡ None → link_with p b ≡ new_link link_width
    alone_of a b p f g = h.alone a b p (sym (post_same a) ∙ f) (sym (post_same b) ∙ g)

    there_of : (a : Peer) → IsThere w a → IsThere v a
    there_of a k = (k.0, post_same a ∙ k.1)

    goes : (x : Sent) → GoesBetween w x → GoesBetween v x
    goes x g = record { from = there_of x.from g.from; to = there_of x.to g.to; apart = g.apart }

-- both directions of the links of two actors that are there
pub both_of : (w : Served) (a b : Peer) (p q : Links) → same_peer b a ≡ false → post_of w a ≡ Some p → post_of w b ≡ Some q → AreTied w
    → BothWays a b (link_with p b) (link_with q a) (between w a b) (between w b a) w.packets.sent
both_of w a b p q e i j h = record { going = h.pairs a b p q (other_way b a e) i j; coming = h.pairs b a q p e j i }

-- other messages, and other packets, that are the same
both_alike : (a b : Peer) (here there : Link) (out out' back back' : List Msg) (packets packets' : List Sent) → out' ≡ out → back' ≡ back
    → packets' ≡ packets → BothWays a b here there out back packets → BothWays a b here there out' back' packets'
both_alike a b here there out out' back back' packets packets' e f g h =
    subst (λ (ms : List Msg). BothWays a b here there ms back' packets') (sym e)
    (subst (λ (ms : List Msg). BothWays a b here there out ms packets') (sym f)
    (subst (λ (ps : List Sent). BothWays a b here there out back ps) (sym g) h))

-- a link of the actor with another one is changed
put_post : (a b : Peer) (p : Links) (l : Link) → same_peer a b ≡ false → IsPost a p → IsPost a (with_link p b l)
put_post a b p l e h = record {
  me = h.me;
  width = h.width;
  links = links_put p.me p.width p.ends (with_link p b l).ends b l h.links refl;
  own = link_of_actor p b a l ∙ ap (λ (t : Bool). cond t l (link_with p a)) e ∙ h.own;
}

put_here : (b : Peer) (p : Links) (l : Link) → link_with (with_link p b l) b ≡ l
put_here b p l = link_of_actor p b b l ∙ ap (λ (t : Bool). cond t l (link_with p b)) (tied_self b)

put_other : (b c : Peer) (p : Links) (l : Link) → same_peer c b ≡ false → link_with (with_link p b l) c ≡ link_with p c
put_other b c p l e = link_of_actor p b c l ∙ ap (λ (t : Bool). cond t l (link_with p c)) e

-- ## A link with one other actor is changed

-- this link fits, and all messages with others are as they were
pub tied_link : (a b : Peer) (p q : Links) (l : Link) (w v : Served) → post_of w a ≡ Some p → post_of w b ≡ Some q → same_peer a b ≡ false
    → Changes a (with_link p b l) w v []
    → BothWays a b l (link_with q a) (between v a b) (between v b a) w.packets.sent
    → ((c : Peer) → same_peer c b ≡ false → (between v a c ≡ between w a c) × (between v c a ≡ between w c a))
    → AreTied w → AreTied v
tied_link a b p q l w v i j e c pair others h = tied_changed a (with_link p b l) w v [] c (record {
  post = put_post a b p l e (h.posts a p i);
  pairs = λ x r f k. at x r f (sym (c.there x f) ∙ k);
  alone = λ x f k. gone x f (sym (c.there x f) ∙ k);
  sent = λ x k. absurd k;
}) h
  where
    packets : v.packets.sent ≡ w.packets.sent
    packets = c.packets ∙ append-nil w.packets.sent

    Fits : Peer → Type 0
    Fits x = (r : Links) → same_peer x a ≡ false → post_of w x ≡ Some r
        → BothWays a x (link_with (with_link p b l) x) (link_with r a) (between v a x) (between v x a) v.packets.sent

    here : Fits b
    here r f k =
        subst (λ (m : Link). BothWays a b m (link_with r a) (between v a b) (between v b a) v.packets.sent) (sym (put_here b p l))
        (subst (λ (s : Links). BothWays a b l (link_with s a) (between v a b) (between v b a) v.packets.sent) (some_is q r (sym j ∙ k))
        (subst (λ (ps : List Sent). BothWays a b l (link_with q a) (between v a b) (between v b a) ps) (sym packets) pair))

    other : (x : Peer) → same_peer x b ≡ false → Fits x
    other x g r f k =
        subst (λ (m : Link). BothWays a x m (link_with r a) (between v a x) (between v x a) v.packets.sent) (sym (put_other b x p l g))
        (both_alike a x (link_with p x) (link_with r a) (between w a x) (between v a x) (between w x a) (between v x a) w.packets.sent
        v.packets.sent (others x g).0 (others x g).1 packets (both_of w a x p r f i k h))

    at : (x : Peer) → Fits x
    at x = each Fits b here other x

    gone : (x : Peer) → same_peer x a ≡ false → post_of w x ≡ None → link_with (with_link p b l) x ≡ new_link link_width
    gone x = each (λ (y : Peer). same_peer y a ≡ false → post_of w y ≡ None → link_with (with_link p b l) y ≡ new_link link_width) b
        (λ f k. absurd (none_there q (sym j ∙ k)))
        (λ y g f k. put_other b y p l g ∙ h.alone a y p i k) x

-- ## A message is pushed to an actor that is there

pub tied_pushed : (a b : Peer) (p q : Links) (m : Msg) (w v : Served) → post_of w a ≡ Some p → post_of w b ≡ Some q → same_peer a b ≡ false
    → FitsMessage m → length (message m) < 2 ^ 64 → pushed_to p b + length (cut_of (message m)) < 2 ^ 64
    → Changes a (post_pushed p b (message m)) w v []
    → between v a b ≡ between w a b ++ m ∷ [] → between v b a ≡ between w b a
    → ((c : Peer) → same_peer c b ≡ false → (between v a c ≡ between w a c) × (between v c a ≡ between w c a))
    → AreTied w → AreTied v
tied_pushed a b p q m w v i j e fits short room c out back others h =
    tied_link a b p q (link_pushed (link_with p b) (message m)) w v i j e c
    (both_alike a b (link_pushed (link_with p b) (message m)) (link_with q a) (between w a b ++ m ∷ []) (between v a b) (between w b a)
    (between v b a) w.packets.sent w.packets.sent out back refl
    (both_pushed a b (link_with p b) (link_with q a) (between w a b) (between w b a) w.packets.sent m fits short room
    (both_of w a b p q (other_way a b e) i j h)))
    others h

-- ## A packet of an actor that is there comes

pub tied_accepted : (a b : Peer) (p q : Links) (packet : Packet) (w v : Served) → post_of w a ≡ Some p → post_of w b ≡ Some q
    → same_peer a b ≡ false
    → IsPacketOf (link_with q a).window (link_with p b).window packet → Changes a (post_accepted p b packet).links w v []
    → between v a b ≡ between w a b → between v b a ≡ rest_of (post_accepted p b packet).heard.joined (between w b a)
    → ((c : Peer) → same_peer c b ≡ false → (between v a c ≡ between w a c) × (between v c a ≡ between w c a))
    → AreTied w → AreTied v
tied_accepted a b p q packet w v i j e of c out back others h =
    tied_link a b p q (link_accepted (link_with p b) packet) w v i j e c
    (both_alike a b (link_accepted (link_with p b) packet) (link_with q a) (between w a b) (between v a b)
    (rest_of (heard_on (link_with p b) packet).joined (between w b a)) (between v b a) w.packets.sent w.packets.sent out back refl
    (both_accepted a b (link_with p b) (link_with q a) (between w a b) (between w b a) w.packets.sent packet of
    (both_of w a b p q (other_way a b e) i j h)))
    others h

-- what it completes are the first messages on their way
pub first_of : (a b : Peer) (p q : Links) (packet : Packet) (w : Served) → post_of w a ≡ Some p → post_of w b ≡ Some q
    → same_peer a b ≡ false
    → IsPacketOf (link_with q a).window (link_with p b).window packet → AreTied w
    → AreFirstOf (post_accepted p b packet).heard.joined (between w b a)
first_of a b p q packet w i j e of h =
    first_joined (link_with q a) (link_with p b) (between w b a) packet of (both_of w a b p q (other_way a b e) i j h).coming.way

-- ## What is due goes out

-- nothing is due on a new link where nothing was heard
none_due : (turn heard : Bool) → heard ≡ false → due_of (new_link link_width).window turn heard ≡ []
none_due true true e = absurd (cc)
none_due false true e = absurd (cc)
none_due true false e = refl
none_due false false e = refl

not_due : (l : Link) (turn heard : Bool) (p : Packet) → l ≡ new_link link_width → heard ≡ false → In p (due_of l.window turn heard) → ⊥
not_due l turn heard p e f i =
    subst (λ (ps : List Packet). In p ps) (ap (λ (x : Link). due_of x.window turn heard) e ∙ none_due turn heard f) i

-- whoever was heard is there, and another
abbrev pub IsHeard : Served → Peer → Option Peer → Type 0
IsHeard w a None = Unit {0}
IsHeard w a (Some b) = IsThere w b × (same_peer b a ≡ false)

not_heard : (w : Served) (a b : Peer) (heard : Option Peer) → IsHeard w a heard → (IsThere w b → same_peer b a ≡ false → ⊥)
    → is_peer b heard ≡ false
not_heard w a b None of g = refl
not_heard w a b (Some who) of g = either (same_peer b who) refl
  where
    either : (t : Bool) → same_peer b who ≡ t → same_peer b who ≡ false
    either true e =
        let is : b ≡ who = peer_is b who e in
        absurd (g (subst (λ (x : Peer). IsThere w x) (sym is) of.0) (subst (λ (x : Peer). same_peer x a ≡ false) (sym is) of.1))
    either false e = e

due_on : (s : Links) (turn : Bool) (heard : Option Peer) (x : Sent) (to : Peer) → x.to ≡ to → WasSent s turn heard x
    → IsDue (link_with s to) x.bytes
due_on s turn heard x to e w = record {
  again = turn;
  heard = is_peer x.to heard;
  packet = w.packet;
  due = subst (λ (q : Peer). In w.packet (due_of (link_with s q).window turn (is_peer x.to heard))) e w.due;
  text = w.text;
}

-- all links of the actor were sent
sent_post : (a : Peer) (p : Links) → IsPost a p → IsPost a (links_sent p)
sent_post a p h = record {
  me = h.me;
  width = h.width;
  links = links_changed p.me p.width p.ends (links_sent p).ends link_sent h.links refl;
  own = links_of_actors p a ∙ ap link_sent h.own;
}

pub tied_due : (a : Peer) (p : Links) (turn : Bool) (heard : Option Peer) (w v : Served) → post_of w a ≡ Some p → IsHeard w a heard
    → Changes a (post_due p turn heard).links w v (post_due p turn heard).sent
    → ((b c : Peer) → between v b c ≡ between w b c) → AreTied w → AreTied v
tied_due a p turn heard w v i of c ways h = tied_changed a (links_sent p) w v (post_due p turn heard).sent c (record {
  post = sent_post a p (h.posts a p i);
  pairs = λ x r f k. at x r f (sym (c.there x f) ∙ k);
  alone = λ x f k. links_of_actors p x ∙ ap link_sent (h.alone a x p i (sym (c.there x f) ∙ k));
  sent = λ x k. (
    from x k,
    record {
      from = subst (λ (y : Peer). IsThere v y) (sym (from x k)) (links_sent p, c.here);
      to = there_still a (links_sent p) w v more c x.to (goes x (was x k)).0;
      apart =
          subst (λ (y : Peer). same_peer y x.to ≡ false) (sym (from x k)) (other_way x.to a (goes x (was x k)).1);
    },
  );
}) h
  where
    more : List Sent
    more = (post_due p turn heard).sent

    was : (x : Sent) → In x more → WasSent p turn heard x
    was x k = sent_to_actor p turn heard x (h.posts a p i).links.ordered k

    from : (x : Sent) → In x more → x.from ≡ a
    from x k = (was x k).sender ∙ (h.posts a p i).me

    -- it goes to another one that is there
    other : (x : Sent) → WasSent p turn heard x → same_peer x.to a ≡ false
    other x s = either (same_peer x.to a) refl
      where
        either : (t : Bool) → same_peer x.to a ≡ t → same_peer x.to a ≡ false
        either false e = e
        either true e =
            absurd (not_due (link_with p x.to) turn (is_peer x.to heard) s.packet
            (ap (λ (y : Peer). link_with p y) (peer_is x.to a e) ∙ (h.posts a p i).own)
            (not_heard w a x.to heard of (λ there f. apart x.to a f (peer_is x.to a e))) s.due)

    there : (x : Sent) → WasSent p turn heard x → IsThere w x.to
    there x s = either (post_of w x.to) refl
      where
        either : (o : Option Links) → post_of w x.to ≡ o → IsThere w x.to
        either (Some q) e = (q, e)
        either None e =
            absurd (not_due (link_with p x.to) turn (is_peer x.to heard) s.packet (h.alone a x.to p i e)
            (not_heard w a x.to heard of (λ k f. none_there k.0 (sym k.1 ∙ e))) s.due)

    goes : (x : Sent) → WasSent p turn heard x → IsThere w x.to × (same_peer x.to a ≡ false)
    goes x s = (there x s, other x s)

    at : (x : Peer) (r : Links) → same_peer x a ≡ false → post_of w x ≡ Some r
        → BothWays a x (link_with (links_sent p) x) (link_with r a) (between v a x) (between v x a) v.packets.sent
    at x r f k =
        subst (λ (m : Link). BothWays a x m (link_with r a) (between v a x) (between v x a) v.packets.sent) (sym (links_of_actors p x))
        (both_alike a x (link_sent (link_with p x)) (link_with r a) (between w a x) (between v a x) (between w x a) (between v x a)
        (w.packets.sent ++ more) v.packets.sent (ways a x) (ways x a) c.packets
        (both_due a x (link_with p x) (link_with r a) (between w a x) (between w x a) w.packets.sent more
        (λ y n e g. due_on p turn heard y x g (was y n)) (λ y n e g. apart x a f (sym e ∙ from y n)) (both_of w a x p r f i k h)))

-- ## An actor that was not there

pub tied_joined : (a : Peer) (w v : Served) → post_of w a ≡ None → Changes a (no_links a link_width) w v []
    → ((b : Peer) → (between v a b ≡ []) × (between v b a ≡ [])) → AreTied w → AreTied v
tied_joined a w v none c ways h = tied_changed a (no_links a link_width) w v [] c (record {
  post = record { me = refl; width = refl; links = record { wide = omega arith; narrow = omega arith; ordered = refl }; own = refl };
  pairs = λ x r f k. at x r f (sym (c.there x f) ∙ k);
  alone = λ x f k. refl;
  sent = λ x k. absurd k;
}) h
  where
    packets : v.packets.sent ≡ w.packets.sent
    packets = c.packets ∙ append-nil w.packets.sent

    gone : IsThere w a → ⊥
    gone k = none_there k.0 (sym k.1 ∙ none)

    at : (x : Peer) (r : Links) → same_peer x a ≡ false → post_of w x ≡ Some r
        → BothWays a x (new_link link_width) (link_with r a) (between v a x) (between v x a) v.packets.sent
    at x r f k =
        subst (λ (m : Link). BothWays a x (new_link link_width) m (between v a x) (between v x a) v.packets.sent)
        (sym (h.alone x a r k none))
        (both_alike a x (new_link link_width) (new_link link_width) [] (between v a x) [] (between v x a) w.packets.sent v.packets.sent
        (ways x).0 (ways x).1 packets
        (both_new a x w.packets.sent
        (λ y n e g. gone (subst (λ (z : Peer). IsThere w z) e (h.between y n).from))
        (λ y n e g. gone (subst (λ (z : Peer). IsThere w z) g (h.between y n).to))))
