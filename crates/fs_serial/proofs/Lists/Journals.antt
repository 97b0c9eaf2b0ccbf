-- Facts on lists, walks and records that several kinds of step need.
use Rattle.std.proofs.Common.{◌≡◌, ℕ, ◌+◌, ◌==◌, Bool, true, false, List, [], ◌∷◌, ◌++◌, ◌⊎◌, map, refl, sym, ap, ◌∙◌, subst, inl, inr, cond, append_assoc, append-nil}
use Rattle.std.specs.Prelude.{Option, Some, None, is_some, option_map}
use Rattle.std.specs.Cmp.{nat_eq_equiv}
use Rattle.std.specs.Cmp.Lexicographic.{nat_list_eq_equiv}
use Rattle.std.proofs.lemmas.List.Elements.{filter-append}
use mathlib.Core.Path.{fun_ext}
use Rattle.fs_ident.specs.In.{In}
use Rattle.fs_ident.specs.Ident.{same}
use Rattle.fs_ident.specs.declared.actor.Session.{Session}
use Rattle.fs_ident.specs.declared.kind.Kind.{Kind}
use Rattle.fs_ident.proofs.Standing.{In-map, In-append}
use Rattle.fs_field.specs.Field.{file_of}
use Rattle.fs_field.specs.declared.effect.Effect.{Effect}
use Rattle.fs_msg.specs.Journal.{IsSerialRun, item_step, may_admit}
use Rattle.fs_msg.specs.declared.item.Item.{Item}
use Rattle.fs_model.specs.Namespace.{NodeMap}
use Rattle.fs_record.specs.Applied.{records_after, nodes_after_all}
use Rattle.fs_record.specs.Records.{RecordMap, nodes_of}
use Rattle.fs_record.specs.ValueOf.{value_of, value_at}
use Rattle.fs_record.proofs.NodeMaps.{node_there, nodes_alike}
use Rattle.fs_record.specs.Applied.{records_after_all}
use Rattle.fs_view.specs.Gone.{known_with}
use Rattle.fs_view.specs.Walk.{known_in}
use Rattle.fs_serial.specs.Fresh.{made, made_in, made_by, or_else, root_kind, IsMade, IsAtOrBelow}
use Rattle.fs_serial.specs.Numbers.{AreNumbered, ReapsInOrder, is_server, is_session, items_at, items_by}

-- ## Lists

-- what holds of the image of each item holds of each item of the image
pub each_image : {X Y : Type 0} (f : X → Y) (P : Y → Type 0) (xs : List X) → ((x : X) → In x xs → P (f x)) → (y : Y) → In y (map f xs) → P y
each_image f P xs h y i = let q = In-map f y xs i in subst P (sym q.1.1) (h q.0 q.1.0)

-- what holds of one more item, and of each of the others
pub each_more : {X : Type 0} (P : X → Type 0) (xs : List X) (new : X) → ((x : X) → In x xs → P x) → P new → (x : X) → In x (xs ++ new ∷ []) → P x
each_more P xs new old here x i = elim (In-append x xs (new ∷ []) i) as (λ _. P x) [
  | inl j ↦ old x j
  | inr j ↦ elim j as (λ _. P x) [ inl e ↦ subst P (sym e) here | inr z ↦ absurd z ]
]

pub there_is : {X : Type 0} (o : Option X) → is_some o ≡ true → (x : X) × (o ≡ Some x)
there_is None h = absurd (cc)
there_is (Some x) h = (x, refl)

pub none_mapped : {X Y : Type 0} (f : X → Y) (o : Option X) → option_map f o ≡ None → o ≡ None
none_mapped f None e = refl
none_mapped f (Some x) e = absurd (cc e)

-- ## Identifiers

pub same_symm : (a b : List ℕ) → same a b ≡ same b a
same_symm a b = nat_list_eq_equiv.symm a b

pub below-trans : (i j k : List ℕ) → IsAtOrBelow i j → IsAtOrBelow j k → IsAtOrBelow i k
below-trans i j k p q = (p.0 ++ q.0, q.1 ∙ ap (λ xs. xs ++ q.0) p.1 ∙ append_assoc i p.0 q.0)

pub below_itself : (i : List ℕ) → IsAtOrBelow i i
below_itself i = ([], sym (append-nil i))

-- ## Sessions

pub session_itself : (s : Session) → (s.0 == s.0) ≡ true
session_itself s = nat_eq_equiv.refl s.0

-- ## Walks and values

-- the values of records are those of their nodes
pub known_nodes : (m : RecordMap) (by : Session) → known_with (value_of m by) ≡ known_in (nodes_of m) by
known_nodes m by = fun_ext (λ field. fun_ext (λ kind. ap (λ o. Some (value_at by field o)) (sym (node_there m (file_of field)))))

pub nodes_all : (m : RecordMap) (es : List Effect) → nodes_of (records_after_all m es) ≡ nodes_after_all (nodes_of m) es
nodes_all m [] = refl
nodes_all m (e ∷ es) = nodes_all (records_after m e) es ∙ ap (λ n. nodes_after_all n es) (nodes_alike m e)

-- ## Journals

pub serial_push : (first : NodeMap) (is : List Item) (last next : NodeMap) (i : Item) → IsSerialRun first is last → may_admit i.by i.op ≡ true → (item_step last i).reply ≡ i.reply → (item_step last i).nodes ≡ next → IsSerialRun first (is ++ i ∷ []) next
serial_push first [] last next i h may r n = (may, ap (λ m. (item_step m i).reply) h ∙ r, ap (λ m. (item_step m i).nodes) h ∙ n)
serial_push first (j ∷ is) last next i h may r n = (h.0, h.1, serial_push (item_step first j).nodes is last next i h.2 may r n)

kept_if : (b : Bool) (i : Item) → b ≡ true → cond b (i ∷ []) [] ≡ i ∷ []
kept_if true i e = refl
kept_if false i e = absurd (cc)

dropped_if : (b : Bool) (i : Item) → b ≡ false → cond b (i ∷ []) [] ≡ []
dropped_if true i e = absurd (cc)
dropped_if false i e = refl

pub items-own : (by : Session) (is : List Item) (i : Item) → is_session by i.by ≡ true → items_by by (is ++ i ∷ []) ≡ items_by by is ++ i ∷ []
items-own by is i own = filter-append (λ (i : Item). is_session by i.by) is (i ∷ []) ∙ ap (λ xs. items_by by is ++ xs) (kept_if (is_session by i.by) i own)

pub items-other : (by : Session) (is : List Item) (i : Item) → is_session by i.by ≡ false → items_by by (is ++ i ∷ []) ≡ items_by by is
items-other by is i other = filter-append (λ (i : Item). is_session by i.by) is (i ∷ []) ∙ ap (λ xs. items_by by is ++ xs) (dropped_if (is_session by i.by) i other) ∙ append-nil (items_by by is)

items-elsewhere : (k : ℕ) (is : List Item) (i : Item) → is_server k i.by ≡ false → items_at k (is ++ i ∷ []) ≡ items_at k is
items-elsewhere k is i other = filter-append (λ (i : Item). is_server k i.by) is (i ∷ []) ∙ ap (λ xs. items_at k is ++ xs) (dropped_if (is_server k i.by) i other) ∙ append-nil (items_at k is)

-- an item more that is no server's leaves the reaps in order
pub reaps-still : (reaps : ℕ → ℕ) (is : List Item) (i : Item) → ((k : ℕ) → is_server k i.by ≡ false) → ReapsInOrder reaps is → ReapsInOrder reaps (is ++ i ∷ [])
reaps-still reaps is i other h k = subst (λ js. AreNumbered 1 js (reaps k + 1)) (sym (items-elsewhere k is i (other k))) (h k)

-- ## Made

pub or_none : (a : Option Kind) → or_else a None ≡ a
or_none None = refl
or_none (Some k) = refl

pub or_assoc : (a b c : Option Kind) → or_else a (or_else b c) ≡ or_else (or_else a b) c
or_assoc None b c = refl
or_assoc (Some k) b c = refl

pub made_in-append : (is : List Item) (i : Item) (id : List ℕ) → made_in (is ++ i ∷ []) id ≡ or_else (made_in is id) (made_by i.op i.reply id)
made_in-append [] i id = or_none (made_by i.op i.reply id)
made_in-append (j ∷ is) i id = ap (or_else (made_by j.op j.reply id)) (made_in-append is i id) ∙ or_assoc (made_by j.op j.reply id) (made_in is id) (made_by i.op i.reply id)

-- what one more item made
pub made-append : (is : List Item) (i : Item) (id : List ℕ) → made (is ++ i ∷ []) id ≡ or_else (made is id) (made_by i.op i.reply id)
made-append is i id = ap (or_else (root_kind id)) (made_in-append is i id) ∙ or_assoc (root_kind id) (made_in is id) (made_by i.op i.reply id)

-- stays made
pub made_one : (is : List Item) (i : Item) (id : List ℕ) (kind : Kind) → made is id ≡ Some kind → made (is ++ i ∷ []) id ≡ Some kind
made_one is i id kind h = made-append is i id ∙ ap (λ o. or_else o (made_by i.op i.reply id)) h

pub made_kept : (is more : List Item) (f : List ℕ) (kind : Kind) → made is f ≡ Some kind → made (is ++ more) f ≡ Some kind
made_kept is [] f kind e = ap (λ js. made js f) (append-nil is) ∙ e
made_kept is (i ∷ more) f kind e =
    ap (λ js. made js f) (sym (append_assoc is (i ∷ []) more)) ∙ made_kept (is ++ i ∷ []) more f kind (made_one is i f kind e)

either_some : (a b : Option Kind) → is_some (or_else a b) ≡ true → (is_some a ≡ true) ⊎ (is_some b ≡ true)
either_some None b h = inr h
either_some (Some k) b h = inl refl

pub made_before : (is : List Item) (i : Item) (id : List ℕ) → IsMade (is ++ i ∷ []) id → IsMade is id ⊎ (is_some (made_by i.op i.reply id) ≡ true)
made_before is i id h = either_some (made is id) (made_by i.op i.reply id) (ap is_some (sym (made-append is i id)) ∙ h)
