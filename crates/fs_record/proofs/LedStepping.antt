-- The effects of a delete or a rename against the step of the namespace.
use Rattle.std.proofs.Common.{◌≡◌, ℕ, List, Bool, true, false, refl, ap, sym, ◌∙◌, cond, subst}
use Rattle.std.specs.Prelude.{Option, Some, None, option_map, not, ◌&&◌, is_some}
use Rattle.std.specs.Ordering.{nat_cmp, eq_by_cmp}
use Rattle.std.specs.Cmp.Lexicographic.{slice_cmp, nat_list_cmp_total}
use Rattle.std.specs.FinMap.{get, remove, get-remove, same_map}
use Rattle.fs_ident.specs.Ident.{same}
use Rattle.fs_ident.specs.declared.actor.Session.{Session}
use Rattle.fs_ident.specs.declared.kind.Kind.{Kind}
use Rattle.fs_ident.specs.declared.kind.Kind.TheVariants.{File, Dir}
use Rattle.fs_field.specs.declared.effect.Effect.TheVariants.{SetChild, SetParent}
use Rattle.fs_model.specs.declared.node.Node.{Node}
use Rattle.fs_model.specs.declared.op.Op.{Op}
use Rattle.fs_model.specs.declared.op.Op.TheVariants as op
use Rattle.fs_model.specs.declared.reply.Reply.{Reply}
use Rattle.fs_model.specs.Ancestors.{is_on_chain}
use Rattle.fs_model.specs.Children.{child_at}
use Rattle.fs_model.specs.Namespace.{NodeMap, with_change, with_change_at}
use Rattle.fs_model.specs.Sound.{child_of}
use Rattle.fs_model.specs.Step.{Stepped, step, at_place, with_link, without_link, is_childless, is_unused, delete, delete_in, delete_child, denies_delete, rename, rename_in, rename_to, rename_to_dir, rename_child, with_moved_node}
use Rattle.fs_record.specs.Applied.{nodes_after, nodes_after_all, with_at}
use Rattle.fs_record.specs.LedEffects.{led_effects, move_effects, moves_or_removes, named_file, removal_effects}
use Rattle.fs_ident.proofs.Booleans.{denied}
use Rattle.fs_ident.proofs.MapsOf.{anti}
use Rattle.fs_record.proofs.NodeValues.{key_is}

-- the effects of the operation, with the reply of the outcome, lead to the outcome
abbrev Leads : NodeMap → Op → List ℕ → Stepped → Type 0
Leads m o file s = nodes_after_all m (led_effects o file s.reply) ≡ s.nodes

led_if : (m : NodeMap) (o : Op) (file : List ℕ) (b : Bool) (s t : Stepped) → (b ≡ true → Leads m o file s) → (b ≡ false → Leads m o file t) → Leads m o file (cond b s t)
led_if m o file true s t p q = p refl
led_if m o file false s t p q = q refl

-- ## A change of one node

remove_absent : (m : NodeMap) (k : List ℕ) → get m k ≡ None → remove m k ≡ m
remove_absent m k e = same_map nat_list_cmp_total anti _ _ (λ q. get-remove nat_list_cmp_total m k q ∙ by q (eq_by_cmp (slice_cmp nat_cmp) q k) refl)
  where
    by : (q : List ℕ) (b : Bool) → eq_by_cmp (slice_cmp nat_cmp) q k ≡ b → cond b None (get m q) ≡ get m q
    by q true t = sym (ap (get m) (key_is q k t) ∙ e)
    by q false t = refl

-- a change of a node, whether it is there or not, in the two forms
changed_alike : (f : Node → Node) (m : NodeMap) (file : List ℕ) → with_at m file (option_map f (get m file)) ≡ with_change f m file
changed_alike f m file = by (get m file) refl
  where
    by : (o : Option Node) → get m file ≡ o → with_at m file (option_map f o) ≡ with_change_at f m file o
    by None e = remove_absent m file e
    by (Some n) e = refl

removed_alike : (m : NodeMap) (file dir name : List ℕ) → nodes_after_all m (removal_effects file dir name) ≡ remove (with_change (without_link name) m dir) file
removed_alike m file dir name = ap (λ n. remove n file) (changed_alike (without_link name) m dir)

moved_alike : (m : NodeMap) (file sdir sname ddir dname : List ℕ) → nodes_after_all m (move_effects file sdir sname ddir dname) ≡ with_moved_node m file sdir sname ddir dname
moved_alike m file sdir sname ddir dname =
    let linked : NodeMap = with_change (with_link dname file) m ddir in
    let unlinked : NodeMap = with_change (without_link sname) linked sdir in
    ap (λ n. nodes_after (nodes_after n (SetChild sdir sname None)) (SetParent file ddir dname)) (changed_alike (with_link dname file) m ddir)
    ∙ ap (λ n. nodes_after n (SetParent file ddir dname)) (changed_alike (without_link sname) linked sdir)
    ∙ changed_alike (at_place ddir dname) unlinked file

-- ## Deletes

child_goes : (m : NodeMap) (dir name file : List ℕ) → Leads m (op.Delete dir name) file (delete_child m dir name (Some file))
child_goes m dir name file =
    led_if m (op.Delete dir name) file (not (is_childless (get m file))) _ _ (λ _. refl) (λ _.
    led_if m (op.Delete dir name) file (not (is_unused (get m file))) _ _ (λ _. refl) (λ _. removed_alike m file dir name))

delete_leads : (m : NodeMap) (dir name file : List ℕ) (o : Option Node) → child_of o name ≡ Some file → Leads m (op.Delete dir name) file (delete o m dir name)
delete_leads m dir name file None e = refl
delete_leads m dir name file (Some d) e = within d.kind
  where
    within : (k : Kind) → Leads m (op.Delete dir name) file (delete_in k m d dir name)
    within File = refl
    within Dir = subst (λ c. Leads m (op.Delete dir name) file (delete_child m dir name c)) (sym e) (child_goes m dir name file)

-- ## Renames

child_moves : (m : NodeMap) (sdir sname ddir dname file : List ℕ) (d : Node) → moves_or_removes (op.Rename sdir sname ddir dname) ≡ true
    → Leads m (op.Rename sdir sname ddir dname) file (rename_child m sdir sname d ddir dname (Some file))
child_moves m sdir sname ddir dname file d p =
    let o : Op = op.Rename sdir sname ddir dname in
    led_if m o file (same sdir ddir && same sname dname) _ _ (λ h. absurd (denied (same sdir ddir && same sname dname) p h)) (λ _.
    led_if m o file (is_some (child_at d.children dname)) _ _ (λ _. refl) (λ _.
    led_if m o file (denies_delete (get m file)) _ _ (λ _. refl) (λ _.
    led_if m o file (is_on_chain m file ddir) _ _ (λ _. refl) (λ _. moved_alike m file sdir sname ddir dname))))

to_leads : (m : NodeMap) (sdir sname ddir dname file : List ℕ) (s : Node) (o : Option Node) → moves_or_removes (op.Rename sdir sname ddir dname) ≡ true
    → child_at s.children sname ≡ Some file → Leads m (op.Rename sdir sname ddir dname) file (rename_to m s sdir sname o ddir dname)
to_leads m sdir sname ddir dname file s None p e = refl
to_leads m sdir sname ddir dname file s (Some d) p e = within d.kind
  where
    within : (k : Kind) → Leads m (op.Rename sdir sname ddir dname) file (rename_to_dir k m s sdir sname d ddir dname)
    within File = refl
    within Dir = subst (λ c. Leads m (op.Rename sdir sname ddir dname) file (rename_child m sdir sname d ddir dname c)) (sym e) (child_moves m sdir sname ddir dname file d p)

rename_leads : (m : NodeMap) (sdir sname ddir dname file : List ℕ) (o : Option Node) → moves_or_removes (op.Rename sdir sname ddir dname) ≡ true
    → child_of o sname ≡ Some file → Leads m (op.Rename sdir sname ddir dname) file (rename o m sdir sname ddir dname)
rename_leads m sdir sname ddir dname file None p e = refl
rename_leads m sdir sname ddir dname file (Some s) p e = within s.kind
  where
    within : (k : Kind) → Leads m (op.Rename sdir sname ddir dname) file (rename_in k m s sdir sname ddir dname)
    within File = refl
    within Dir = to_leads m sdir sname ddir dname file s (get m ddir) p e

leads : (m : NodeMap) (by : Session) (o : Op) (file : List ℕ) → moves_or_removes o ≡ true → named_file m o ≡ Some file → Leads m o file (step m by o)
leads m by (op.Lookup dir name) file p e = absurd (cc p)
leads m by (op.List dir) file p e = absurd (cc p)
leads m by (op.Kind f) file p e = absurd (cc p)
leads m by (op.Info f) file p e = absurd (cc p)
leads m by (op.Create dir name k id) file p e = absurd (cc p)
leads m by (op.OpenFile f h modes) file p e = absurd (cc p)
leads m by (op.Close f h) file p e = absurd (cc p)
leads m by (op.Set f h size stamp) file p e = absurd (cc p)
leads m by (op.Delete dir name) file p e = delete_leads m dir name file (get m dir) e
leads m by (op.Rename sdir sname ddir dname) file p e = rename_leads m sdir sname ddir dname file (get m sdir) p e
leads m by (op.Reap f session) file p e = absurd (cc p)

pub led_effects_lead : (m : NodeMap) (by : Session) (o : Op) (file : List ℕ) (r : Reply) → moves_or_removes o ≡ true → named_file m o ≡ Some file → (step m by o).reply ≡ r
    → nodes_after_all m (led_effects o file r) ≡ (step m by o).nodes
led_effects_lead m by o file r p e h = ap (λ r. nodes_after_all m (led_effects o file r)) (sym h) ∙ leads m by o file p e
