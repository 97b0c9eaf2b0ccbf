-- What effects that are on their way leave as it is: the directory in which a file stands, and a name of a directory.
use Rattle.std.proofs.Common.{◌≡◌, ◌∙◌, ℕ, Bool, true, false, List, [], ◌∷◌, refl, sym, ap, subst, inl, inr}
use Rattle.std.specs.Prelude.{Option, Some, None, IfSome, is_some, option_map}
use Rattle.std.specs.FinMap.{get}
use Rattle.std.specs.List.{find, list_any}
use Rattle.fs_ident.specs.Ident.{same}
use Rattle.fs_ident.specs.In.{In}
use Rattle.fs_ident.specs.declared.actor.TxnNo.{TxnNo}
use Rattle.fs_ident.proofs.Same.{same_is, same_self}
use Rattle.fs_ident.proofs.Standing.{any_In, none_pass}
use Rattle.fs_field.specs.After.{changed_file}
use Rattle.fs_field.specs.declared.effect.Effect.{Effect}
use Rattle.fs_field.specs.declared.effect.Effect.TheVariants.{SetChild, SetParent, NewNode, RemoveNode, AddHandle, RemoveHandle, SetInfo}
use Rattle.fs_map.proofs.Found.{In_found}
use Rattle.fs_model.specs.Sound.{child_of, parent_of}
use Rattle.fs_model.specs.Step.{children_of}
use Rattle.fs_model.specs.declared.node.Node.{Node}
use Rattle.fs_model.proofs.SoundMaps.{without_other}
use Rattle.fs_path.specs.Tables.{frozen_for}
use Rattle.fs_record.specs.Applied.{node_change, records_after, records_after_all}
use Rattle.fs_record.specs.Records.{AreRecords, IsRecord, RecordMap, node_of}
use Rattle.fs_record.specs.declared.record.Record.{Record}
use Rattle.fs_server.specs.PathSteps.{dir_here, has_child}
use Rattle.fs_txn.specs.Decided.{AreDecided, IsDecided}
use Rattle.fs_serial.proofs.DecidedEffects.Underway.{either_file, node_beside, node_changed}

-- ## Files that are kept

abbrev is_for : List ℕ → List ℕ × TxnNo → Bool
is_for file x = same x.0 file

-- where a transaction keeps the file, one is found
pub kept_among : (file : List ℕ) (txn : TxnNo) (frozen : List (List ℕ × TxnNo)) → In (file, txn) frozen → is_some (frozen_for file frozen) ≡ true
kept_among file txn frozen i = by (find (is_for file) frozen) refl
  where
    by : (o : Option (List ℕ × TxnNo)) → find (is_for file) frozen ≡ o → is_some (option_map (λ (x : List ℕ × TxnNo). x.1) o) ≡ true
    by (Some x) e = refl
    by None e =
        let none : same file file ≡ false = none_pass (is_for file) frozen e (file, txn) i in
        let wrong : true ≡ false = sym (same_self file) ∙ none in
        absurd (cc wrong)

-- ## The directory of a file

-- the directory in which the node stands
abbrev pub dir_in : Option Node → Option (List ℕ)
dir_in n = option_map (λ (place : List ℕ × List ℕ). place.0) (parent_of n)

-- the effect leaves the file there, or puts it into that directory
abbrev pub LeavesIn : Option (List ℕ) → List ℕ → Effect → Type 0
LeavesIn dir f (SetParent file to name) = file ≡ f → dir ≡ Some to
LeavesIn dir f (RemoveNode file) = file ≡ f → ⊥
LeavesIn dir f e = Unit {0}

left_in : (e : Effect) (o : Option Node) → IsDecided e → LeavesIn (dir_in o) (changed_file e) e → dir_in (node_change e o) ≡ dir_in o
left_in (SetChild d n None) None k l = refl
left_in (SetChild d n None) (Some x) k l = refl
left_in (SetParent file dir name) None k l = refl
left_in (SetParent file dir name) (Some x) k l = sym (l refl)
left_in (RemoveNode file) o k l = absurd (l refl)
left_in (SetChild d n (Some z)) o k l = absurd k
left_in (NewNode a b c z) o k l = absurd k
left_in (AddHandle a b c z) o k l = absurd k
left_in (RemoveHandle a b c) o k l = absurd k
left_in (SetInfo a b c) o k l = absurd k

dir_one : (m : RecordMap) (f : List ℕ) (e : Effect) → IsDecided e → LeavesIn (dir_here m f) f e → dir_here (records_after m e) f ≡ dir_here m f
dir_one m f e d leaves = elim (either_file f (changed_file e)) as (λ _. dir_here (records_after m e) f ≡ dir_here m f) [
  | inl s ↦ subst (λ (x : List ℕ). LeavesIn (dir_here m x) x e → dir_here (records_after m e) x ≡ dir_here m x) (sym s)
      (λ l. ap dir_in (node_changed m e) ∙ left_in e (node_of (get m (changed_file e))) d l) leaves
  | inr other ↦ ap (λ (o : Option Record). dir_in (node_of o)) (node_beside m e f other)
]

-- after all of them it stands where it stood
pub dir_all : (m : RecordMap) (f : List ℕ) (es : List Effect) → AreDecided es → ((e : Effect) → In e es → LeavesIn (dir_here m f) f e)
    → dir_here (records_after_all m es) f ≡ dir_here m f
dir_all m f [] d leaves = refl
dir_all m f (e ∷ es) d leaves =
    let one : dir_here (records_after m e) f ≡ dir_here m f = dir_one m f e (d e (inl refl)) (leaves e (inl refl)) in
    dir_all (records_after m e) f es (λ x i. d x (inr i)) (λ x i. subst (λ o. LeavesIn o f x) (sym one) (leaves x (inr i))) ∙ one

-- ## A name of a directory

-- the effect neither takes the name away, nor the directory
abbrev pub LeavesName : List ℕ → List ℕ → Effect → Type 0
LeavesName d name (SetChild dir n None) = dir ≡ d → n ≡ name → ⊥
LeavesName d name (RemoveNode file) = file ≡ d → ⊥
LeavesName d name e = Unit {0}

left_name : (e : Effect) (name : List ℕ) (o : Option Node) → IsDecided e → LeavesName (changed_file e) name e
    → child_of (node_change e o) name ≡ child_of o name
left_name (SetChild d n None) name None k l = refl
left_name (SetChild d n None) name (Some x) k l = without_other x.children n name (λ q. l refl (sym q))
left_name (SetParent file dir to) name None k l = refl
left_name (SetParent file dir to) name (Some x) k l = refl
left_name (RemoveNode file) name o k l = absurd (l refl)
left_name (SetChild d n (Some z)) name o k l = absurd k
left_name (NewNode a b c z) name o k l = absurd k
left_name (AddHandle a b c z) name o k l = absurd k
left_name (RemoveHandle a b c) name o k l = absurd k
left_name (SetInfo a b c) name o k l = absurd k

name_one : (m : RecordMap) (d name : List ℕ) (e : Effect) → IsDecided e → LeavesName d name e
    → child_of (node_of (get (records_after m e) d)) name ≡ child_of (node_of (get m d)) name
name_one m d name e k leaves =
    elim (either_file d (changed_file e)) as (λ _. child_of (node_of (get (records_after m e) d)) name ≡ child_of (node_of (get m d)) name) [
      | inl s ↦
          subst (λ (x : List ℕ). LeavesName x name e → child_of (node_of (get (records_after m e) x)) name ≡ child_of (node_of (get m x)) name) (sym s)
          (λ l. ap (λ o. child_of o name) (node_changed m e) ∙ left_name e name (node_of (get m (changed_file e))) k l) leaves
      | inr other ↦ ap (λ (o : Option Record). child_of (node_of o) name) (node_beside m e d other)
    ]

-- after all of them it stands for what it stood for
pub name_all : (m : RecordMap) (d name : List ℕ) (es : List Effect) → AreDecided es → ((e : Effect) → In e es → LeavesName d name e)
    → child_of (node_of (get (records_after_all m es) d)) name ≡ child_of (node_of (get m d)) name
name_all m d name [] k leaves = refl
name_all m d name (e ∷ es) k leaves =
    name_all (records_after m e) d name es (λ x i. k x (inr i)) (λ x i. leaves x (inr i)) ∙ name_one m d name e (k e (inl refl)) (leaves e (inl refl))

-- ## Children

-- the directory has the file under a name
pub record HasNamed (m : RecordMap) (d f : List ℕ) : Type 0 where
  pub name : List ℕ
  pub is : child_of (node_of (get m d)) name ≡ Some f

-- each child has a name, which stands for it alone
pub named_child : (m : RecordMap) (d f : List ℕ) → AreRecords m → has_child m d f ≡ true → HasNamed m d f
named_child m d f records has = of_record (get m d) refl
  where
    of_record : (o : Option Record) → get m d ≡ o → HasNamed m d f
    of_record None e =
        let wrong : false ≡ true = sym (ap (λ (o : Option Record). list_any (λ (c : List ℕ × List ℕ). same c.1 f) (children_of (node_of o))) e) ∙ has in
        absurd (cc wrong)
    of_record (Some r) e =
        let here : list_any (λ (c : List ℕ × List ℕ). same c.1 f) r.node.children ≡ true =
        sym (ap (λ (o : Option Record). list_any (λ (c : List ℕ × List ℕ). same c.1 f) (children_of (node_of o))) e) ∙ has in
        let q = any_In (λ (c : List ℕ × List ℕ). same c.1 f) r.node.children here in
        let one : IsRecord r = subst (λ (o : Option Record). IfSome o IsRecord) e (records d) in
        record {
          name = q.0.0;
          is = ap (λ (o : Option Record). child_of (node_of o) q.0.0) e ∙ In_found q.0 r.node.children one.in_order.children q.1.0
              ∙ ap Some (same_is q.0.1 f q.1.1);
        }

-- so it has a record
pub has_dir : (m : RecordMap) (d f : List ℕ) → has_child m d f ≡ true → is_some (get m d) ≡ true
has_dir m d f has = of_record (get m d) refl
  where
    of_record : (o : Option Record) → get m d ≡ o → is_some o ≡ true
    of_record (Some r) e = refl
    of_record None e =
        let wrong : false ≡ true = sym (ap (λ (o : Option Record). list_any (λ (c : List ℕ × List ℕ). same c.1 f) (children_of (node_of o))) e) ∙ has in
        absurd (cc wrong)
