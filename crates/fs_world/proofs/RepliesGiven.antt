-- What a session is told of its operation is what was answered it.
use Rattle.std.proofs.Common.{◌≡◌, ◌∙◌, ◌==◌, Bool, true, false, List, [], ◌∷◌, ◌++◌, append-nil, cond, refl, ap, sym, subst, inl, inr}
use Rattle.std.proofs.lemmas.List.Elements.{filter-append}
use Rattle.std.specs.Prelude.{Option, Some, None}
use Rattle.fs_ident.specs.In.{In}
use Rattle.fs_ident.specs.declared.actor.Session.{Session}
use Rattle.fs_ident.proofs.Same.{itself, one_session}
use Rattle.fs_ident.proofs.Standing.{In-front}
use Rattle.fs_model.specs.declared.op.Op.{Op}
use Rattle.fs_msg.specs.declared.answer.Answer.{Answer}
use Rattle.fs_msg.specs.declared.item.Item.{Item}
use Rattle.fs_client.specs.declared.led.Led.{Led}
use Rattle.fs_serial.specs.World.{Ends, pushed, with_ends, with_told}
use Rattle.fs_serial.proofs.Grants.RowKinds.{In-kept}
use Rattle.fs_world.specs.Coming.{IsTold, items_with}
use Rattle.fs_world.specs.Order.{Agrees, AreAsTold, HasNumberOf, IsAdmitted, Leads, Tale, ReplyGiven, told_to, with_lead}
use Rattle.fs_world.proofs.Coming.{none_comes}
use Rattle.fs_world.proofs.Seen.{turned}

-- each reply that was told is among those of its session
among_these : (is : List Item) (ts : List ReplyGiven) → AreAsTold is ts → (t : ReplyGiven) → In t ts → IsAdmitted is t
among_these [] [] h t i = absurd i
among_these [] (u ∷ us) h t i = absurd h
among_these (x ∷ xs) [] h t i = absurd h
among_these (x ∷ xs) (u ∷ us) h t (inl e) = subst (λ (v : ReplyGiven). IsAdmitted (x ∷ xs) v) (sym e) (x, inl refl, h.0, h.1)
among_these (x ∷ xs) (u ∷ us) h t (inr i) = let q = among_these xs us h.2 t i in (q.0, inr q.1, q.2, q.3)

-- it is as told, and what is led was asked for so
pub record IsTelling (x : Session) (e : Ends) (items : List Item) (all : List ReplyGiven) (lead : Option Op) : Type 0 where
  pub told : IsTold x e items all
  pub asked : (d : Led) → e.client.led ≡ Some d → lead ≡ Some d.entry.op

-- so it is of each session
abbrev pub AllTelling : (Session → Ends) → (Session → List Item) → Tale → Type 0
AllTelling ends replied tale = (x : Session) → IsTelling x (ends x) (replied x) (told_to x tale.told) (tale.leads x)

pub among_replies : (ends : Session → Ends) (replied : Session → List Item) (tale : Tale) → AllTelling ends replied tale → (t : ReplyGiven)
    → In t tale.told → IsAdmitted (replied t.session) t
among_replies ends replied tale h t i =
    let q = (h t.session).told in
    let e : Ends = ends t.session in
    let a = among_these q.front (told_to t.session tale.told) q.told t (In-kept (λ (u : ReplyGiven). t.session.0 == u.session.0) t
    tale.told i (itself t.session.0)) in
    (a.0, subst (In a.0) (sym q.split) (In-front a.0 q.front (items_with t.session e.client.led e.down) a.1), a.2, a.3)

-- ## One reply more

as_told_more : (is : List Item) (ts : List ReplyGiven) (i : Item) (t : ReplyGiven) → AreAsTold is ts → HasNumberOf i t → Agrees i t
    → AreAsTold (is ++ i ∷ []) (ts ++ t ∷ [])
as_told_more [] [] i t h n a = (n, a, tt)
as_told_more [] (u ∷ us) i t h n a = absurd h
as_told_more (x ∷ xs) [] i t h n a = absurd h
as_told_more (x ∷ xs) (u ∷ us) i t h n a = (h.0, h.1, as_told_more xs us i t h.2 n a)

-- it goes to this session, and to no other
goes_to : (x : Session) (told : List ReplyGiven) (t : ReplyGiven) (b : Bool) → (x.0 == t.session.0) ≡ b
    → told_to x (told ++ t ∷ []) ≡ told_to x told ++ cond b (t ∷ []) []
goes_to x told t b e = filter-append (λ (u : ReplyGiven). x.0 == u.session.0) told (t ∷ [])
    ∙ ap (λ (c : Bool). told_to x told ++ cond c (t ∷ []) []) e

own_more : (s : Session) (told : List ReplyGiven) (t : ReplyGiven) → t.session ≡ s → told_to s (told ++ t ∷ []) ≡ told_to s told ++ t ∷ []
own_more s told t own = goes_to s told t true (ap (λ (y : Session). s.0 == y.0) own ∙ itself s.0)

other_more : (s x : Session) (told : List ReplyGiven) (t : ReplyGiven) → t.session ≡ s → (s.0 == x.0) ≡ false
    → told_to x (told ++ t ∷ []) ≡ told_to x told
other_more s x told t own e = goes_to x told t false (turned x.0 t.session.0 ∙ ap (λ (y : Session). y.0 == x.0) own ∙ e)
    ∙ append-nil (told_to x told)

-- ## What a client's event tells

-- nothing, and the same is led and comes; or the reply to an operation, where nothing is led; or something is led then; or it is
-- done, or freed
pub data TellsOf (s : Session) (led later : Option Led) (down rest : List Answer) (o : Option Item) (new : List ReplyGiven)
    (leads then : Leads) : Type 0 where
  tells_none : later ≡ led → items_with s led rest ≡ items_with s led down → o ≡ None → new ≡ [] → then ≡ leads
      → TellsOf s led later down rest o new leads then
  tells_one : led ≡ None → later ≡ None → (i : Item) (t : ReplyGiven) → o ≡ Some i → new ≡ t ∷ [] → t.session ≡ s → HasNumberOf i t
      → Agrees i t → then ≡ leads → TellsOf s led later down rest o new leads then
  tells_led : led ≡ None → (l : Led) → later ≡ Some l → items_with s (Some l) rest ≡ [] → o ≡ None → new ≡ []
      → then ≡ with_lead s l.entry.op leads → TellsOf s led later down rest o new leads then
  tells_done : later ≡ None → (i : Item) (t : ReplyGiven) → items_with s led down ≡ i ∷ [] → o ≡ None → new ≡ t ∷ [] → t.session ≡ s
      → HasNumberOf i t → Agrees i t → then ≡ leads → TellsOf s led later down rest o new leads then
  tells_freed : later ≡ None → items_with s led down ≡ [] → o ≡ None → new ≡ [] → then ≡ leads
      → TellsOf s led later down rest o new leads then

module _ (s : Session) (l n : Ends) (items : List Item) (tale : Tale) (new : List ReplyGiven) (o : Option Item) (then : Leads)
    (h : IsTelling s l items (told_to s tale.told) (tale.leads s)) where
  abbrev IsThen : Type 0
  IsThen = IsTelling s n (pushed o items) (told_to s (tale.told ++ new)) (then s)

  -- nothing more was told
  still_told : new ≡ [] → told_to s (tale.told ++ new) ≡ told_to s tale.told
  still_told e = ap (λ ts. told_to s (tale.told ++ ts)) e ∙ ap (told_to s) (append-nil tale.told)

  nothing_led : n.client.led ≡ None → (d : Led) → n.client.led ≡ Some d → then s ≡ Some d.entry.op
  nothing_led e d f = let z : None ≡ Some d = sym e ∙ f in absurd (cc)

  none_then : n.client.led ≡ None → items_with s n.client.led n.down ≡ []
  none_then e = ap (λ d. items_with s d n.down) e ∙ none_comes s n.down

  none_before : l.client.led ≡ None → items ≡ h.told.front
  none_before e = h.told.split ∙ ap (λ is. h.told.front ++ is) (ap (λ d. items_with s d l.down) e ∙ none_comes s l.down)
      ∙ append-nil h.told.front

  -- all of it was told
  front_only : (front : List Item) → pushed o items ≡ front → items_with s n.client.led n.down ≡ []
      → AreAsTold front (told_to s (tale.told ++ new)) → IsTold s n (pushed o items) (told_to s (tale.told ++ new))
  front_only front e none a = record { front = front; split = e ∙ sym (append-nil front) ∙ ap (λ is. front ++ is) (sym none); told = a }

  one_told_more : (front : List Item) (i : Item) (t : ReplyGiven) → new ≡ t ∷ [] → t.session ≡ s → HasNumberOf i t → Agrees i t
      → AreAsTold front (told_to s tale.told) → AreAsTold (front ++ i ∷ []) (told_to s (tale.told ++ new))
  one_told_more front i t e own number agrees a = subst (AreAsTold (front ++ i ∷ [])) (sym (ap (λ ts. told_to s (tale.told ++ ts)) e
      ∙ own_more s tale.told t own)) (as_told_more front (told_to s tale.told) i t a number agrees)

  pub telling_then : TellsOf s l.client.led n.client.led l.down n.down o new tale.leads then → IsThen
  telling_then (tells_none same comes quiet none leads) = record {
    told = record {
      front = h.told.front;
      split = ap (λ (p : Option Item). pushed p items) quiet ∙ h.told.split
          ∙ ap (λ is. h.told.front ++ is) (sym (ap (λ d. items_with s d n.down) same ∙ comes));
      told = subst (AreAsTold h.told.front) (sym (still_told none)) h.told.told;
    };
    asked = λ d e. ap (λ (f : Leads). f s) leads ∙ h.asked d (sym same ∙ e);
  }
  telling_then (tells_one before later i t some one own number agrees leads) = record {
    told = front_only (h.told.front ++ i ∷ []) (ap (λ (p : Option Item). pushed p items) some
        ∙ ap (λ is. is ++ i ∷ []) (none_before before)) (none_then later)
        (one_told_more h.told.front i t one own number agrees h.told.told);
    asked = nothing_led later;
  }
  telling_then (tells_led before d later comes quiet none leads) = record {
    told = front_only h.told.front (ap (λ (p : Option Item). pushed p items) quiet ∙ none_before before)
        (ap (λ x. items_with s x n.down) later ∙ comes) (subst (AreAsTold h.told.front) (sym (still_told none)) h.told.told);
    asked = λ x e. let same : Some d ≡ Some x = sym later ∙ e in let is : d ≡ x = cc in ap (λ (f : Leads). f s) leads
        ∙ ap (λ b. cond b (Some d.entry.op) (tale.leads s)) (itself s.0) ∙ ap (λ (y : Led). Some y.entry.op) is;
  }
  telling_then (tells_done later i t comes quiet one own number agrees leads) = record {
    told = front_only (h.told.front ++ i ∷ []) (ap (λ (p : Option Item). pushed p items) quiet ∙ h.told.split
        ∙ ap (λ is. h.told.front ++ is) comes) (none_then later) (one_told_more h.told.front i t one own number agrees h.told.told);
    asked = nothing_led later;
  }
  telling_then (tells_freed later comes quiet none leads) = record {
    told = front_only h.told.front (ap (λ (p : Option Item). pushed p items) quiet ∙ h.told.split ∙ ap (λ is. h.told.front ++ is) comes
        ∙ append-nil h.told.front) (none_then later) (subst (AreAsTold h.told.front) (sym (still_told none)) h.told.told);
    asked = nothing_led later;
  }

-- others are told nothing by it
module _ (s : Session) (led later : Option Led) (down rest : List Answer) (o : Option Item) (new : List ReplyGiven) (tale : Tale)
    (then : Leads) (x : Session) (other : (s.0 == x.0) ≡ false) where
  abbrev Others : Type 0
  Others = (told_to x (tale.told ++ new) ≡ told_to x tale.told) × (then x ≡ tale.leads x)

  none_other : new ≡ [] → told_to x (tale.told ++ new) ≡ told_to x tale.told
  none_other e = ap (λ ts. told_to x (tale.told ++ ts)) e ∙ ap (told_to x) (append-nil tale.told)

  one_other : (t : ReplyGiven) → new ≡ t ∷ [] → t.session ≡ s → told_to x (tale.told ++ new) ≡ told_to x tale.told
  one_other t e own = ap (λ ts. told_to x (tale.told ++ ts)) e ∙ other_more s x tale.told t own other

  pub others_still : TellsOf s led later down rest o new tale.leads then → Others
  others_still (tells_none same comes quiet none leads) = (none_other none, ap (λ (f : Leads). f x) leads)
  others_still (tells_one before none i t some one own number agrees leads) = (one_other t one own, ap (λ (f : Leads). f x) leads)
  others_still (tells_led before d more comes quiet none leads) =
      (none_other none, ap (λ (f : Leads). f x) leads ∙ ap (λ b. cond b (Some d.entry.op) (tale.leads x)) other)
  others_still (tells_done none i t comes quiet one own number agrees leads) = (one_other t one own, ap (λ (f : Leads). f x) leads)
  others_still (tells_freed more comes quiet none leads) = (none_other none, ap (λ (f : Leads). f x) leads)

-- ## At all sessions

module _ (s : Session) (next : Ends) (ends : Session → Ends) (replied : Session → List Item) (tale : Tale) (o : Option Item)
    (new : List ReplyGiven) (then : Leads) (h : AllTelling ends replied tale)
    (q : TellsOf s (ends s).client.led next.client.led (ends s).down next.down o new tale.leads then) where
  at_each : (x : Session) (b : Bool) → (s.0 == x.0) ≡ b → IsTelling x (cond b next (ends x)) (cond b (pushed o (replied x)) (replied x))
      (told_to x (tale.told ++ new)) (then x)
  at_each x true e = subst (λ (y : Session). IsTelling y next (pushed o (replied y)) (told_to y (tale.told ++ new)) (then y))
      (one_session s x e) (telling_then s (ends s) next (replied s) tale new o then (h s) q)
  at_each x false e =
      let p = others_still s (ends s).client.led next.client.led (ends s).down next.down o new tale then x e q in
      subst (λ (ts : List ReplyGiven). IsTelling x (ends x) (replied x) ts (then x)) (sym p.0)
      (subst (IsTelling x (ends x) (replied x) (told_to x tale.told)) (sym p.1) (h x))

  pub told_more : AllTelling (with_ends s next ends) (with_told s o replied) (record { told = tale.told ++ new; leads = then })
  told_more x = at_each x (s.0 == x.0) refl
