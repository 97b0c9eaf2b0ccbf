-- Laws of a link that stands at a place.
use Rattle.std.proofs.Common.{◌≡◌, ◌∙◌, ℕ, List, get_or, set, ap, sym, unwrap_or}
use Rattle.std.proofs.lemmas.List.{set-get_or}
use Rattle.std.specs.Prelude.{Option, Some, Result, Ok, Err, OnOk, OnErr}
use Rattle.std.specs.FinMap.Entries.{find, put}
use Rattle.fs_ident.specs.declared.actor.Peer.{Peer}
use Rattle.fs_window.specs.declared.link.Link.{Link}
use Rattle.fs_window.specs.Peers.{peer_cmp, IsPlaceOf}

-- the entry at the place, with another link
put_at : (links : List (Peer × Link)) (peer : Peer) (at : ℕ) (e : Peer × Link) (v : Link) → IsPlaceOf links peer at → e ≡ get_or links at e → set links at (e.0, v) ≡ put peer_cmp peer v links
put_at links peer at e v place here =
    let key : e.0 ≡ peer = ap (λ (x : Peer × Link). x.0) here ∙ place.key e in
    ap (λ (k : Peer). set links at (k, v)) key ∙ sym (place.replaced v)

value_at : (links : List (Peer × Link)) (peer : Peer) (at : ℕ) (e : Peer × Link) (new : Link) → IsPlaceOf links peer at → e ≡ get_or links at e → e.1 ≡ unwrap_or (find peer_cmp peer links) new
value_at links peer at e new place here = ap (λ (x : Peer × Link). x.1) here ∙ sym (ap (λ (o : Option Link). unwrap_or o new) (place.value e))

-- a call that failed left the link, and so all of them
pub same_at : {T E : Type 0} (r : Result T E) (links : List (Peer × Link)) (at : ℕ) (e : Peer × Link) (v : Link) → e ≡ get_or links at e → OnErr r (v ≡ e.1) → OnErr r (set links at (e.0, v) ≡ links)
same_at (Ok x) links at e v here h = tt
same_at (Err x) links at e v here h = ap (λ (w : Link). set links at (e.0, w)) h ∙ ap (λ (x : Peer × Link). set links at x) here ∙ set-get_or links at e

-- a call that answered changed the link
pub changed_at : {T E : Type 0} (r : Result T E) (links : List (Peer × Link)) (peer : Peer) (at : ℕ) (e : Peer × Link) (v : Link) (f : Link → Link) (new : Link) → IsPlaceOf links peer at → e ≡ get_or links at e → OnOk r (v ≡ f e.1) → OnOk r (set links at (e.0, v) ≡ put peer_cmp peer (f (unwrap_or (find peer_cmp peer links) new)) links)
changed_at (Ok x) links peer at e v f new place here h = put_at links peer at e v place here ∙ ap (λ (w : Link). put peer_cmp peer w links) (h ∙ ap f (value_at links peer at e new place here))
changed_at (Err x) links peer at e v f new place here h = tt

-- the link was as it was found
pub restored_at : (links : List (Peer × Link)) (peer : Peer) (at : ℕ) (e : Peer × Link) (v : Link) (f : Link → Link) (l : Link) → IsPlaceOf links peer at → e ≡ get_or links at e → v ≡ f e.1 → find peer_cmp peer links ≡ Some l → set links at (e.0, v) ≡ put peer_cmp peer (f l) links
restored_at links peer at e v f l place here h found =
    let value : e.1 ≡ l = value_at links peer at e l place here ∙ ap (λ (o : Option Link). unwrap_or o l) found in
    put_at links peer at e v place here ∙ ap (λ (w : Link). put peer_cmp peer w links) (h ∙ ap f value)
