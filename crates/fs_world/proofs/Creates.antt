-- Creates, with an identifier or without.
use Rattle.std.proofs.Common.{◌≡◌, ℕ, ◌+◌, Bool, true, false, List, [], ◌∷◌, ◌++◌, length, if◌then◌else◌, refl, ap, sym, ◌∙◌, subst, ◌&&◌}
use Rattle.std.proofs.Common.{not}
use Rattle.std.proofs.Math.ListN.{set}
use Rattle.std.proofs.Math.Seq.{set-append_seam}
use Rattle.std.specs.Prelude.{Option, Some, None, is_some}
use Rattle.std.specs.FinMap.{get, insert}
use Rattle.fs_ident.specs.declared.actor.Session.{Session}
use Rattle.fs_ident.specs.declared.kind.Kind.{Kind}
use Rattle.fs_ident.specs.declared.kind.Kind.TheVariants.{File, Dir}
use Rattle.fs_model.specs.declared.node.Node.{Node}
use Rattle.fs_model.specs.declared.op.Op.{Op}
use Rattle.fs_model.specs.declared.op.Op.TheVariants as op
use Rattle.fs_model.specs.declared.reply.Reply.TheVariants as reply
use Rattle.fs_model.specs.Namespace.{NodeMap}
use Rattle.fs_model.specs.Children.{child_at}
use Rattle.fs_model.specs.Step.{Stepped, step, reply_alone, create, create_in, create_as, is_child, with_new_node}
use Rattle.fs_msg.specs.declared.item.Item.{Item}
use Rattle.fs_world.specs.declared.direct.world.Direct.{Direct}
use Rattle.fs_world.specs.Direct.{Answer, Numbers, answer, answer_of, candidate, candidate_of, with_item, create_answer, item_of}
use Rattle.fs_world.specs.Direct.{with_answer, with_number_used, is_made, next_of}

-- a create that is not made answers as one without an identifier, and changes as little
as_unmade : (b : Bool) (m n : NodeMap)
    → is_made (if b then record { reply = reply.Made; nodes = n } else reply_alone m reply.BadId).reply ≡ false
    → (if b then record { reply = reply.Made; nodes = n } else reply_alone m reply.BadId) ≡ reply_alone m reply.BadId
as_unmade true m n e = absurd (cc)
as_unmade false m n e = refl

create_as_unmade : (m : NodeMap) (dir name : List ℕ) (kind : Kind) (id : Option (List ℕ))
    → is_made (create_as m dir name kind id).reply ≡ false → create_as m dir name kind id ≡ create_as m dir name kind None
create_as_unmade m dir name kind None e = refl
create_as_unmade m dir name kind (Some id) e =
    as_unmade (is_child dir id && not (is_some (get m id))) m (with_new_node m dir name kind id) e

exists_unmade : (b : Bool) (m : NodeMap) (s t : Stepped) → (is_made s.reply ≡ false → s ≡ t)
    → is_made (if b then reply_alone m reply.Exists else s).reply ≡ false
    → (if b then reply_alone m reply.Exists else s) ≡ (if b then reply_alone m reply.Exists else t)
exists_unmade true m s t h e = refl
exists_unmade false m s t h e = h e

in_unmade : (own : Kind) (m : NodeMap) (d : Node) (dir name : List ℕ) (kind : Kind) (id : Option (List ℕ))
    → is_made (create_in own m d dir name kind id).reply ≡ false → create_in own m d dir name kind id ≡ create_in own m d dir name kind None
in_unmade File m d dir name kind id e = refl
in_unmade Dir m d dir name kind id e = exists_unmade (is_some (child_at d.children name)) m (create_as m dir name kind id)
    (create_as m dir name kind None) (create_as_unmade m dir name kind id) e

of_unmade : (o : Option Node) (m : NodeMap) (dir name : List ℕ) (kind : Kind) (id : Option (List ℕ))
    → is_made (create o m dir name kind id).reply ≡ false → create o m dir name kind id ≡ create o m dir name kind None
of_unmade None m dir name kind id e = refl
of_unmade (Some d) m dir name kind id e = in_unmade d.kind m d dir name kind id e

pub unmade : (m : NodeMap) (by : Session) (dir name : List ℕ) (kind : Kind) (id : Option (List ℕ))
    → is_made (step m by (op.Create dir name kind id)).reply ≡ false
    → step m by (op.Create dir name kind id) ≡ step m by (op.Create dir name kind None)
unmade m by dir name kind id e = of_unmade (get m dir) m dir name kind id e

-- the parts of an answer, by the step of the operation that was tried, and the one that stands in the journal where
-- it is not made
pub record IsCreated (m : NodeMap) (numbers : Numbers) (by : Session) (dir : List ℕ) (tried plain : Op) (k : ℕ) (a : Answer) : Type 0 where
  pub op : (if is_made (step m by tried).reply then tried else plain) ≡ a.op
  pub reply : (step m by tried).reply ≡ a.reply
  pub space : (step m by tried).nodes ≡ a.space
  pub next : (if is_made (step m by tried).reply then insert numbers dir (k + 1) else numbers) ≡ a.next

tried_at : (b : Bool) (m : NodeMap) (numbers : Numbers) (by : Session) (dir name : List ℕ) (kind : Kind) (id : Option (List ℕ))
    → is_made (step m by (op.Create dir name kind id)).reply ≡ b
    → IsCreated m numbers by dir (op.Create dir name kind id) (op.Create dir name kind None) (next_of numbers dir)
    (if b then with_number_used numbers dir (answer_of m numbers by (op.Create dir name kind id)) else answer_of m numbers by
    (op.Create dir name kind None))
tried_at true m numbers by dir name kind id e = record { op = rw e refl; reply = refl; space = refl; next = rw e refl }
tried_at false m numbers by dir name kind id e = record {
  op = rw e refl;
  reply = ap (λ (s : Stepped). s.reply) (unmade m by dir name kind id e);
  space = ap (λ (s : Stepped). s.nodes) (unmade m by dir name kind id e);
  next = rw e refl;
}

pub created : (m : NodeMap) (numbers : Numbers) (by : Session) (dir name : List ℕ) (kind : Kind) (tried plain : Op) (id : List ℕ)
    (some : Option (List ℕ)) (k : ℕ)
    → tried ≡ op.Create dir name kind (Some id) → plain ≡ op.Create dir name kind None → some ≡ Some id → some ≡ candidate_of k dir
    → k ≡ next_of numbers dir
    → IsCreated m numbers by dir tried plain k (create_answer m numbers by dir name kind (candidate numbers dir))
created m numbers by dir name kind tried plain id some k t p is from number =
    let a : Answer = create_answer m numbers by dir name kind (candidate numbers dir) in
    let all : IsCreated m numbers by dir (op.Create dir name kind (candidate numbers dir)) (op.Create dir name kind None)
    (next_of numbers dir) a =
    tried_at (is_made (step m by (op.Create dir name kind (candidate numbers dir))).reply) m numbers by dir name kind
    (candidate numbers dir) refl in
    let given : Some id ≡ candidate numbers dir = sym is ∙ from ∙ ap (λ (n : ℕ). candidate_of n dir) number in
    let first : tried ≡ op.Create dir name kind (candidate numbers dir) =
    t ∙ ap (λ (o : Option (List ℕ)). op.Create dir name kind o) given in
    subst (λ (x : Op). IsCreated m numbers by dir x plain k a) (sym first)
    (subst (λ (y : Op). IsCreated m numbers by dir (op.Create dir name kind (candidate numbers dir)) y k a) (sym p)
    (subst (λ (n : ℕ). IsCreated m numbers by dir (op.Create dir name kind (candidate numbers dir)) (op.Create dir name kind None) n a)
    (sym number) all))

-- the namespace and the numbers of an answer are left
pub left_by : (w : Direct) (a : Answer) (m : NodeMap) (numbers : Numbers) → m ≡ a.space → numbers ≡ a.next → record w {
  space = m;
  next =
      numbers;
} ≡ with_answer w a
left_by w a m numbers e f = ap (λ (x : NodeMap). let v : Direct = record w { space = x; next = numbers } in
    v) e ∙ ap (λ (y : Numbers). let v : Direct = record w { space = a.space; next = y } in v) f

-- an item is put into the place that was kept for it
pub carried_by : (w : Direct) (by : Session) (n : ℕ) (a : Answer) (now : Direct) (pushed : List Item) (blank x : Item) (at : ℕ)
    (j : List Item)
    → now ≡ with_answer (record w { journal = pushed }) a → pushed ≡ w.journal ++ blank ∷ [] → at ≡ length w.journal → x ≡ item_of by n a
    → j ≡ set now.journal at x
    → record now { journal = j } ≡ with_item w by n a
carried_by w by n a now pushed blank x at j after push place item put =
    let settled : j ≡ w.journal ++ item_of by n a ∷ [] =
    put ∙ ap (λ (v : Direct). set v.journal at x) after ∙ ap (λ (p : List Item). set p at x) push
    ∙ ap (λ (k : ℕ). set (w.journal ++ blank ∷ []) k x) place
    ∙ set-append_seam w.journal blank [] x ∙ ap (λ (y : Item). w.journal ++ y ∷ []) item in
    ap (λ (v : Direct). let u : Direct = record v { journal = j } in u) after ∙ ap (λ (p : List Item). let u : Direct =
    record (with_answer w a) { journal = p } in u) settled

-- an operation that is no create is carried out as it is
pub plain_answer : (m : NodeMap) (next : Numbers) (by : Session) (o : Op) → ((dir name : List ℕ) (kind : Kind) (id : Option (List ℕ))
    → o ≡ op.Create dir name kind id → ⊥) → answer m next by o ≡ answer_of m next by o
plain_answer m next by (op.Create dir name kind id) h = absurd (h dir name kind id refl)
plain_answer m next by (op.Lookup dir name) h = refl
plain_answer m next by (op.List dir) h = refl
plain_answer m next by (op.Kind file) h = refl
plain_answer m next by (op.Info file) h = refl
plain_answer m next by (op.OpenFile file n modes) h = refl
plain_answer m next by (op.Close file n) h = refl
plain_answer m next by (op.Set file n size stamp) h = refl
plain_answer m next by (op.Delete dir name) h = refl
plain_answer m next by (op.Rename sdir sname ddir dname) h = refl
plain_answer m next by (op.Reap file session) h = refl
