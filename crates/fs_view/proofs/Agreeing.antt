-- Two spaces that agree on the values of what an operation needs answer it alike.
use Rattle.std.proofs.Common.{◌≡◌, ◌∙◌, ℕ, Bool, true, false, not, ◌&&◌, List, refl, ap, sym, inl, inr, cond, subst}
use Rattle.std.specs.Prelude.{Option, Some, None, is_some}
use Rattle.std.specs.FinMap.{get}
use Rattle.fs_ident.specs.In.{In}
use Rattle.fs_ident.specs.declared.actor.Session.{Session}
use Rattle.fs_ident.specs.declared.kind.Kind.{Kind}
use Rattle.fs_ident.specs.declared.kind.Kind.TheVariants.{File, Dir}
use Rattle.fs_field.specs.declared.asked.Need.{Need}
use Rattle.fs_field.specs.declared.asked.Need.TheVariants.{Lease, Fresh}
use Rattle.fs_field.specs.declared.field.Field.TheVariants.{Life, Child}
use Rattle.fs_field.specs.declared.lease_kind.LeaseKind.TheVariants.{Shared, Exclusive}
use Rattle.fs_field.specs.declared.value.Value.TheVariants as value
use Rattle.fs_model.specs.Children.{child_at}
use Rattle.fs_model.specs.Namespace.{NodeMap}
use Rattle.fs_model.specs.Sound.{IsSound, child_of, kind_of}
use Rattle.fs_model.specs.Step.{create, create_as, create_in, is_child, reply_alone, step, with_new_node}
use Rattle.fs_model.specs.declared.node.Node.{Node}
use Rattle.fs_model.specs.declared.op.Op.{Op}
use Rattle.fs_model.specs.declared.op.Op.TheVariants as op
use Rattle.fs_model.specs.declared.reply.Reply.{Reply}
use Rattle.fs_model.specs.declared.reply.Reply.TheVariants as reply
use Rattle.fs_record.specs.Effects.{effects_of, tells_its_effects}
use Rattle.fs_view.specs.Laws.{AgreeOn, AreAnsweredAlike, HasToo, IsNewWhereMade, IsUnborn, reply_told}
use Rattle.fs_view.specs.Script.{Script, answer, ask, ask_create, ask_place, give, no_dir, script_of, unless}
use Rattle.fs_view.specs.View.{nameless}
use Rattle.fs_view.specs.Walk.{always, known_in, walk, walk_along}
use Rattle.fs_view.specs.declared.walk.Walk.{Walk}
use Rattle.fs_view.proofs.Led.{deletes, renames}
use Rattle.fs_view.proofs.Replies.{replies}
use Rattle.fs_view.proofs.Walks.{alike}

-- in a space nothing is missing
all_told : (m : NodeMap) (by : Session) (s : Script) → is_some (walk_along (known_in m by) always s).reply ≡ true
all_told m by (answer r) = refl
all_told m by (ask field kind go) = all_told m by (go (known_in m by field kind))
all_told m by (give dir go) = all_told m by go

told_by : (o : Option Reply) → is_some o ≡ true → (r : Reply) × (o ≡ Some r)
told_by (Some r) h = (r, refl)
told_by None h = absurd (cc h)

same_one : (o : Option Reply) (a b : Reply) → o ≡ Some a → o ≡ Some b → a ≡ b
same_one o a b p q = let e : Some a ≡ Some b = sym p ∙ q in cc e

module _ (m n : NodeMap) (by : Session) where
  -- and the other walks alike
  walks : (o : Op) → AgreeOn m n by (walk (known_in m by) always o).items → walk (known_in n by) always o ≡ walk (known_in m by) always o
  walks o agree = alike (known_in m by) (known_in n by) always always (script_of o) (all_told m by (script_of o)) has
    where
      has : (need : Need) → In need (walk (known_in m by) always o).items → HasToo (known_in m by) (known_in n by) always need
      has (Lease field kind) i = ap Some (agree field kind i)
      has (Fresh dir) i = refl

  -- plain operations that make no file
  plain : (o : Op) → tells_its_effects o ≡ true → ((x : NodeMap) (r : Reply) → IsNewWhereMade x o r) → AgreeOn m n by (walk (known_in m by) always o).items → (step m by o).reply ≡ (step n by o).reply
  plain o p new agree =
      let t = told_by (walk (known_in m by) always o).reply (all_told m by (script_of o)) in
      replies m by o t.0 p (new m t.0) t.1 ∙ sym (replies n by o t.0 p (new n t.0) (ap (λ (w : Walk). w.reply) (walks o agree) ∙ t.1))

  -- ## Creates

  abbrev made : Option Kind → Option (List ℕ) → Bool → Reply
  made None child fits = reply.Gone
  made (Some File) child fits = reply.NotDir
  made (Some Dir) (Some child) fits = reply.Exists
  made (Some Dir) None true = reply.Made
  made (Some Dir) None false = reply.BadId

  abbrev may_name : NodeMap → List ℕ → Option (List ℕ) → Bool
  may_name x dir None = false
  may_name x dir (Some id) = is_child dir id && not (is_some (get x id))

  named : (x : NodeMap) (dir name id : List ℕ) (kind : Kind) (b : Bool) → (is_child dir id && not (is_some (get x id))) ≡ b → (create_as x dir name kind (Some id)).reply ≡ made (Some Dir) None b
  named x dir name id kind true e = ap (λ b. (cond b (record { reply = reply.Made; nodes = with_new_node x dir name kind id }) (reply_alone x reply.BadId)).reply) e
  named x dir name id kind false e = ap (λ b. (cond b (record { reply = reply.Made; nodes = with_new_node x dir name kind id }) (reply_alone x reply.BadId)).reply) e

  place_made : (x : NodeMap) (dir name : List ℕ) (kind : Kind) (id : Option (List ℕ)) (c : Option (List ℕ)) → (cond (is_some c) (reply_alone x reply.Exists) (create_as x dir name kind id)).reply ≡ made (Some Dir) c (may_name x dir id)
  place_made x dir name kind id (Some child) = refl
  place_made x dir name kind None None = refl
  place_made x dir name kind (Some id) None = named x dir name id kind (is_child dir id && not (is_some (get x id))) refl

  created : (x : NodeMap) (dir name : List ℕ) (kind : Kind) (id : Option (List ℕ)) (o : Option Node) → (create o x dir name kind id).reply ≡ made (kind_of o) (child_of o name) (may_name x dir id)
  created x dir name kind id None = refl
  created x dir name kind id (Some d) = elim d.kind as (λ j. (create_in j x d dir name kind id).reply ≡ made (Some j) (child_at d.children name) (may_name x dir id)) [
    | File ↦ refl
    | Dir ↦ place_made x dir name kind id (child_at d.children name)
  ]

  same_made : (k : Option Kind) (c d : Option (List ℕ)) (b : Bool) → (k ≡ Some Dir → c ≡ d) → made k c b ≡ made k d b
  same_made None c d b h = refl
  same_made (Some File) c d b h = refl
  same_made (Some Dir) c d b h = ap (λ x. made (Some Dir) x b) (h refl)

  same_name : (dir : List ℕ) (id : Option (List ℕ)) (name : List ℕ) (kind : Kind) → IsUnborn m (op.Create dir name kind id) → IsUnborn n (op.Create dir name kind id) → may_name m dir id ≡ may_name n dir id
  same_name dir None name kind p q = refl
  same_name dir (Some id) name kind p q = ap (λ (o : Option Node). is_child dir id && not (is_some o)) (p ∙ sym q)

  child_needed : (dir name : List ℕ) → kind_of (get m dir) ≡ Some Dir → In (Lease (Child dir name) Exclusive) (walk_along (known_in m by) always (ask_create dir name None)).items
  child_needed dir name e = inr (subst (λ k. In (Lease (Child dir name) Exclusive) (walk_along (known_in m by) always (unless (no_dir (Some k)) (ask_place dir name None))).items) (sym e) (inl refl))

  creates : (dir name : List ℕ) (kind : Kind) (id : Option (List ℕ)) → IsUnborn m (op.Create dir name kind id) → IsUnborn n (op.Create dir name kind id) → AgreeOn m n by (walk (known_in m by) always (op.Create dir name kind None)).items
      → (step m by (op.Create dir name kind id)).reply ≡ (step n by (op.Create dir name kind id)).reply
  creates dir name kind id p q agree =
      let life : kind_of (get n dir) ≡ kind_of (get m dir) = (let e : value.Life (kind_of (get n dir)) ≡ value.Life (kind_of (get m dir)) = agree (Life dir) Shared (inl refl) in cc e) in
      created m dir name kind id (get m dir)
      ∙ same_made (kind_of (get m dir)) (child_of (get m dir) name) (child_of (get n dir) name) (may_name m dir id)
      (λ e. let f : value.Child (child_of (get n dir) name) ≡ value.Child (child_of (get m dir) name) = agree (Child dir name) Exclusive (child_needed dir name e) in cc f)
      ∙ ap (λ b. made (kind_of (get m dir)) (child_of (get n dir) name) b) (same_name dir id name kind p q)
      ∙ ap (λ k. made k (child_of (get n dir) name) (may_name n dir id)) (sym life)
      ∙ sym (created n dir name kind id (get n dir))

  -- ## All operations

  from_plain : (o : Op) → (step m by o).reply ≡ (step n by o).reply → ((r : Reply) → reply_told o r ≡ r) → AreAnsweredAlike m n by o
  from_plain o e is = record { reply = is _ ∙ e ∙ sym (is _); effects = ap (effects_of by o) e }

  pub answered_alike : (o : Op) → IsSound m → IsSound n → IsUnborn m o → IsUnborn n o → AgreeOn m n by (walk (known_in m by) always (nameless o)).items → AreAnsweredAlike m n by o
  answered_alike (op.Lookup dir name) sm sn p q agree = from_plain (op.Lookup dir name) (plain (op.Lookup dir name) refl (λ x r. tt) agree) (λ r. refl)
  answered_alike (op.List dir) sm sn p q agree = from_plain (op.List dir) (plain (op.List dir) refl (λ x r. tt) agree) (λ r. refl)
  answered_alike (op.Kind file) sm sn p q agree = from_plain (op.Kind file) (plain (op.Kind file) refl (λ x r. tt) agree) (λ r. refl)
  answered_alike (op.Info file) sm sn p q agree = from_plain (op.Info file) (plain (op.Info file) refl (λ x r. tt) agree) (λ r. refl)
  answered_alike (op.Create dir name kind id) sm sn p q agree = from_plain (op.Create dir name kind id) (creates dir name kind id p q agree) (λ r. refl)
  answered_alike (op.OpenFile file h modes) sm sn p q agree = from_plain (op.OpenFile file h modes) (plain (op.OpenFile file h modes) refl (λ x r. tt) agree) (λ r. refl)
  answered_alike (op.Close file h) sm sn p q agree = from_plain (op.Close file h) (plain (op.Close file h) refl (λ x r. tt) agree) (λ r. refl)
  answered_alike (op.Set file h size stamp) sm sn p q agree = from_plain (op.Set file h size stamp) (plain (op.Set file h size stamp) refl (λ x r. tt) agree) (λ r. refl)
  answered_alike (op.Delete dir name) sm sn p q agree =
      let e = same_one (walk (known_in m by) always (op.Delete dir name)).reply _ _ (deletes m by dir name sm) (ap (λ (w : Walk). w.reply) (sym (walks (op.Delete dir name) agree)) ∙ deletes n by dir name sn) in
      record { reply = e; effects = refl }
  answered_alike (op.Rename sdir sname ddir dname) sm sn p q agree =
      let e = same_one (walk (known_in m by) always (op.Rename sdir sname ddir dname)).reply _ _ (renames m by sdir sname ddir dname) (ap (λ (w : Walk). w.reply) (sym (walks (op.Rename sdir sname ddir dname) agree)) ∙ renames n by sdir sname ddir dname) in
      record { reply = e; effects = refl }
  answered_alike (op.Reap file session) sm sn p q agree = record { reply = refl; effects = refl }
