-- The effects of an operation against the step of the namespace.
use Rattle.std.proofs.Common.{◌≡◌, ℕ, ◌+◌, List, length, Bool, true, false, refl, ap, sym, ◌∙◌, cond, arith}
use Rattle.std.specs.Prelude.{Option, Some, None, option_map, not, ◌==◌, ◌&&◌, is_some}
use Rattle.std.specs.Ordering.{nat_cmp, eq_by_cmp}
use Rattle.std.specs.Cmp.Lexicographic.{slice_cmp, nat_list_cmp_total}
use Rattle.std.specs.FinMap.{FinMap, get, insert, get-insert, same_map}
use Rattle.std.proofs.lemmas.Bool.Decides.{nat_tests}
use Rattle.fs_ident.specs.declared.actor.Session.{Session}
use Rattle.fs_ident.specs.declared.kind.Kind.{Kind}
use Rattle.fs_ident.specs.declared.kind.Kind.TheVariants.{File, Dir}
use Rattle.fs_modes.specs.declared.modes.Modes.{Modes}
use Rattle.fs_field.specs.declared.effect.Effect.TheVariants.{SetChild, NewNode}
use Rattle.fs_model.specs.declared.node.Node.{Node}
use Rattle.fs_model.specs.declared.node.Handle.{Handle}
use Rattle.fs_model.specs.declared.op.Op.{Op}
use Rattle.fs_model.specs.declared.op.Op.TheVariants as op
use Rattle.fs_model.specs.declared.reply.Reply.{Reply}
use Rattle.fs_model.specs.Children.{child_at}
use Rattle.fs_model.specs.Handles.{handle_at, any_conflicts}
use Rattle.fs_model.specs.Namespace.{NodeMap, with_change, with_change_at, fresh_node}
use Rattle.fs_model.specs.Step.{Stepped, step, with_link, with_info, with_open, without_open, create, create_in, with_new_node, is_child, open_file, close, set, set_by}
use Rattle.fs_record.specs.Applied.{nodes_after, nodes_after_all, with_at, with_link_to, with_only_open}
use Rattle.fs_record.specs.Effects.{effects_of, tells_its_effects}
use Rattle.fs_ident.proofs.Booleans.{first}
use Rattle.fs_ident.proofs.MapsOf.{anti}
use Rattle.fs_ident.proofs.Options.{not_some}
use Rattle.fs_model.proofs.HandleOrder.{without_absent}
use Rattle.fs_record.proofs.NodeValues.{key_is}

-- the effects of the operation, with the reply of the outcome, lead to the outcome
abbrev Leads : NodeMap → Session → Op → Stepped → Type 0
Leads m by o s = nodes_after_all m (effects_of by o s.reply) ≡ s.nodes

led_if : (m : NodeMap) (by : Session) (o : Op) (b : Bool) (s t : Stepped) → (b ≡ true → Leads m by o s) → (b ≡ false → Leads m by o t) → Leads m by o (cond b s t)
led_if m by o true s t p q = p refl
led_if m by o false s t p q = q refl

-- ## Two nodes

swapped : {X : Type 0} (a b : Bool) (x y g : Option X) → (a ≡ true → b ≡ true → ⊥) → cond a x (cond b y g) ≡ cond b y (cond a x g)
swapped true true x y g apart = absurd (apart refl refl)
swapped true false x y g apart = refl
swapped false b x y g apart = refl

insert_swap : {X : Type 0} (m : FinMap (slice_cmp nat_cmp) X) (a b : List ℕ) (x y : X) → (a ≡ b → ⊥) → insert (insert m a x) b y ≡ insert (insert m b y) a x
insert_swap m a b x y apart = same_map nat_list_cmp_total anti _ _ (λ q.
    get-insert nat_list_cmp_total (insert m a x) b y q ∙ ap (cond (eq_by_cmp (slice_cmp nat_cmp) q b) (Some y)) (get-insert nat_list_cmp_total m a x q)
    ∙ swapped (eq_by_cmp (slice_cmp nat_cmp) q b) (eq_by_cmp (slice_cmp nat_cmp) q a) (Some y) (Some x) (get m q) (λ e f. apart (sym (key_is q a f) ∙ key_is q b e))
    ∙ sym (get-insert nat_list_cmp_total (insert m b y) a x q ∙ ap (cond (eq_by_cmp (slice_cmp nat_cmp) q a) (Some x)) (get-insert nat_list_cmp_total m b y q)))

not_itself : (dir id : List ℕ) → is_child dir id ≡ true → dir ≡ id → ⊥
not_itself dir id c e = let p : (length dir + 1 == length id) ≡ true = first _ _ c in let q : length dir ≡ length id = ap length e in absurd (grind (arith, nat_tests))

other_key : (a b : List ℕ) → (a ≡ b → ⊥) → eq_by_cmp (slice_cmp nat_cmp) a b ≡ false
other_key a b apart = elim (eq_by_cmp (slice_cmp nat_cmp) a b) as (λ t. eq_by_cmp (slice_cmp nat_cmp) a b ≡ t → t ≡ false) [
  | true ↦ λ e. absurd (apart (key_is a b e))
  | false ↦ λ e. refl
] refl

made_alike : (m : NodeMap) (dir name : List ℕ) (kind : Kind) (id : List ℕ) (d : Node) → get m dir ≡ Some d → (dir ≡ id → ⊥)
    → nodes_after (nodes_after m (SetChild dir name (Some id))) (NewNode id kind dir name) ≡ with_new_node m dir name kind id
made_alike m dir name kind id d e apart =
    let fresh : Node = fresh_node kind (Some (dir, name)) in
    let there : get (insert m id fresh) dir ≡ Some d = get-insert nat_list_cmp_total m id fresh dir ∙ ap (λ b. cond b (Some fresh) (get m dir)) (other_key dir id apart) ∙ e in
    ap (λ (o : Option Node). insert (with_at m dir (option_map (with_link_to name (Some id)) o)) id fresh) e
    ∙ insert_swap m dir id (with_link name id d) fresh apart
    ∙ sym (ap (λ o. with_change_at (with_link name id) (insert m id fresh) dir o) there)

-- ## Operations

create_leads : (m : NodeMap) (by : Session) (dir name : List ℕ) (k : Kind) (id : Option (List ℕ)) (o : Option Node) → get m dir ≡ o → Leads m by (op.Create dir name k id) (create o m dir name k id)
create_leads m by dir name k None None e = refl
create_leads m by dir name k (Some id) None e = refl
create_leads m by dir name k None (Some d) e = within d.kind
  where
    within : (own : Kind) → Leads m by (op.Create dir name k None) (create_in own m d dir name k None)
    within File = refl
    within Dir = led_if m by (op.Create dir name k None) (is_some (child_at d.children name)) _ _ (λ _. refl) (λ _. refl)
create_leads m by dir name k (Some id) (Some d) e = within d.kind
  where
    within : (own : Kind) → Leads m by (op.Create dir name k (Some id)) (create_in own m d dir name k (Some id))
    within File = refl
    within Dir = led_if m by (op.Create dir name k (Some id)) (is_some (child_at d.children name)) _ _ (λ _. refl)
        (λ _. led_if m by (op.Create dir name k (Some id)) (is_child dir id && not (is_some (get m id))) _ _ (λ c. made_alike m dir name k id d e (not_itself dir id (first _ _ c))) (λ _. refl))

open_leads : (m : NodeMap) (by : Session) (file : List ℕ) (h : ℕ) (modes : Modes) (o : Option Node) → get m file ≡ o → Leads m by (op.OpenFile file h modes) (open_file o m by file h modes)
open_leads m by file h modes None e = refl
open_leads m by file h modes (Some n) e =
    led_if m by (op.OpenFile file h modes) (is_some (handle_at n.handles by h)) _ _ (λ _. refl) (λ free.
    led_if m by (op.OpenFile file h modes) (any_conflicts n.handles modes) _ _ (λ _. refl) (λ _.
    ap (λ (o : Option Node). with_at m file (option_map (with_only_open by h modes) o)) e
    ∙ ap (λ (xs : List Handle). insert m file (with_open by h modes (record { kind = n.kind; parent = n.parent; children = n.children; size = n.size; stamp = n.stamp; handles = xs }))) (without_absent n.handles by h (not_some _ free))
    ∙ sym (ap (λ o. with_change_at (with_open by h modes) m file o) e)))

-- a change of a node that is there, in the two forms
pub alike : (f : Node → Node) (m : NodeMap) (file : List ℕ) (n : Node) → get m file ≡ Some n → with_at m file (option_map f (get m file)) ≡ with_change f m file
alike f m file n e = ap (λ (o : Option Node). with_at m file (option_map f o)) e ∙ sym (ap (λ o. with_change_at f m file o) e)

close_leads : (m : NodeMap) (by : Session) (file : List ℕ) (h : ℕ) (o : Option Node) → get m file ≡ o → Leads m by (op.Close file h) (close o m by file h)
close_leads m by file h None e = refl
close_leads m by file h (Some n) e = led_if m by (op.Close file h) (is_some (handle_at n.handles by h)) _ _ (λ _. alike (without_open by h) m file n e) (λ _. refl)

set_leads : (m : NodeMap) (by : Session) (file : List ℕ) (h size stamp : ℕ) (o : Option Node) → get m file ≡ o → Leads m by (op.Set file h size stamp) (set o m by file h size stamp)
set_leads m by file h size stamp None e = refl
set_leads m by file h size stamp (Some n) e = with_modes (handle_at n.handles by h)
  where
    with_modes : (o : Option Modes) → Leads m by (op.Set file h size stamp) (set_by o m file size stamp)
    with_modes None = refl
    with_modes (Some modes) = led_if m by (op.Set file h size stamp) modes.acc_w _ _ (λ _. alike (with_info size stamp) m file n e) (λ _. refl)

leads : (m : NodeMap) (by : Session) (o : Op) → tells_its_effects o ≡ true → Leads m by o (step m by o)
leads m by (op.Lookup dir name) p = refl
leads m by (op.List dir) p = refl
leads m by (op.Kind file) p = refl
leads m by (op.Info file) p = refl
leads m by (op.Create dir name k id) p = create_leads m by dir name k id (get m dir) refl
leads m by (op.OpenFile file h modes) p = open_leads m by file h modes (get m file) refl
leads m by (op.Close file h) p = close_leads m by file h (get m file) refl
leads m by (op.Set file h size stamp) p = set_leads m by file h size stamp (get m file) refl
leads m by (op.Delete dir name) p = absurd (cc p)
leads m by (op.Rename sdir sname ddir dname) p = absurd (cc p)
leads m by (op.Reap file session) p = absurd (cc p)

pub effects_lead : (m : NodeMap) (by : Session) (o : Op) (r : Reply) → tells_its_effects o ≡ true → (step m by o).reply ≡ r → nodes_after_all m (effects_of by o r) ≡ (step m by o).nodes
effects_lead m by o r p e = ap (λ r. nodes_after_all m (effects_of by o r)) (sym e) ∙ leads m by o p
