-- What effects change is left as it is by what is apart from them: where a file stands, and what a name stands for. So a part keeps what it
-- has to keep.
use Rattle.std.proofs.Common.{◌≡◌, ◌∙◌, ℕ, List, [], ◌∷◌, refl, sym, ap, inl, inr}
use Rattle.std.specs.Prelude.{◌⊎◌, Option, Some, None, option_map}
use Rattle.std.specs.FinMap.{get}
use Rattle.fs_ident.specs.In.{In}
use Rattle.fs_ident.specs.declared.kind.Kind.{Kind}
use Rattle.fs_ident.specs.declared.kind.Kind.TheVariants.{File}
use Rattle.fs_field.specs.After.{changed_file}
use Rattle.fs_field.specs.declared.effect.Effect.{Effect}
use Rattle.fs_field.specs.declared.effect.Effect.TheVariants.{SetChild, SetParent, NewNode, RemoveNode, AddHandle, RemoveHandle, SetInfo}
use Rattle.fs_field.specs.declared.used.Part.{Part}
use Rattle.fs_model.specs.Sound.{child_of}
use Rattle.fs_model.specs.declared.node.Node.{Node}
use Rattle.fs_model.proofs.SoundMaps.{with_other, without_other}
use Rattle.fs_msg.specs.declared.item.Item.{Item}
use Rattle.fs_record.specs.Applied.{node_change, records_after, records_after_all}
use Rattle.fs_record.specs.Records.{RecordMap, node_of}
use Rattle.fs_record.specs.declared.record.Record.{Record}
use Rattle.fs_server.specs.PathSteps.{dir_here}
use Rattle.fs_txn.specs.Decided.{AreDecided, IsApart}
use Rattle.fs_serial.specs.Fresh.{made}
use Rattle.fs_serial.specs.KeptFiles.{IsKeptFor}
use Rattle.fs_serial.specs.World.{pushed}
use Rattle.fs_serial.proofs.DecidedEffects.AdmitPast.{IsInside}
use Rattle.fs_serial.proofs.DecidedEffects.Underway.{either_file, node_beside, node_changed, place_all}
use Rattle.fs_serial.proofs.Lists.Journals.{made_one}
use Rattle.fs_serial.proofs.Paths.OnTheWay.{LeavesIn, LeavesName, dir_all, dir_in, name_all}

-- ## What an effect changes

-- that is in the second records what it is in the first
abbrev pub PlaceLeft : RecordMap → RecordMap → Effect → Type 0
PlaceLeft m n (SetParent file dir name) = dir_here n file ≡ dir_here m file
PlaceLeft m n (SetChild dir name None) = child_of (node_of (get n dir)) name ≡ child_of (node_of (get m dir)) name
PlaceLeft m n e = Unit {0}

pub same_nodes : (m n : RecordMap) (e : Effect) → ((f : List ℕ) → node_of (get n f) ≡ node_of (get m f)) → PlaceLeft m n e
same_nodes m n (SetParent file dir name) h = ap dir_in (h file)
same_nodes m n (SetChild dir name None) h = ap (λ o. child_of o name) (h dir)
same_nodes m n (SetChild dir name (Some z)) h = tt
same_nodes m n (NewNode a b x z) h = tt
same_nodes m n (RemoveNode a) h = tt
same_nodes m n (AddHandle a b x z) h = tt
same_nodes m n (RemoveHandle a b x) h = tt
same_nodes m n (SetInfo a b x) h = tt

pub left_alike : (m n : RecordMap) (e : Effect) → n ≡ m → PlaceLeft m n e
left_alike m n e same = same_nodes m n e (λ f. ap (λ (x : RecordMap). node_of (get x f)) same)

pub left_then : (a b c : RecordMap) (e : Effect) → PlaceLeft a b e → PlaceLeft b c e → PlaceLeft a c e
left_then a b c (SetParent file dir name) p q = q ∙ p
left_then a b c (SetChild dir name None) p q = q ∙ p
left_then a b c (SetChild dir name (Some z)) p q = tt
left_then a b c (NewNode x y z n) p q = tt
left_then a b c (RemoveNode x) p q = tt
left_then a b c (AddHandle x y z n) p q = tt
left_then a b c (RemoveHandle x y z) p q = tt
left_then a b c (SetInfo x y z) p q = tt

-- ## What is apart from it

child_kept : (dir name : List ℕ) (e : Effect) (o : Option Node) → IsApart (SetChild dir name None) e → dir ≡ changed_file e
    → child_of (node_change e o) name ≡ child_of o name
child_kept dir name (SetChild d n None) None apart s = refl
child_kept dir name (SetChild d n None) (Some x) apart s = without_other x.children n name (apart s)
child_kept dir name (SetChild d n (Some z)) None apart s = refl
child_kept dir name (SetChild d n (Some z)) (Some x) apart s = with_other x.children n z name (apart s)
child_kept dir name (SetParent g d n) None apart s = refl
child_kept dir name (SetParent g d n) (Some x) apart s = refl
child_kept dir name (NewNode g k d n) o apart s = absurd (apart s)
child_kept dir name (RemoveNode g) o apart s = absurd (apart s)
child_kept dir name (AddHandle g a x c) None apart s = refl
child_kept dir name (AddHandle g a x c) (Some y) apart s = refl
child_kept dir name (RemoveHandle g a x) None apart s = refl
child_kept dir name (RemoveHandle g a x) (Some y) apart s = refl
child_kept dir name (SetInfo g a x) None apart s = refl
child_kept dir name (SetInfo g a x) (Some y) apart s = refl

child_one : (m : RecordMap) (dir name : List ℕ) (e : Effect) → IsApart (SetChild dir name None) e
    → child_of (node_of (get (records_after m e) dir)) name ≡ child_of (node_of (get m dir)) name
child_one m dir name e apart =
    elim (either_file dir (changed_file e)) as
    (λ _. child_of (node_of (get (records_after m e) dir)) name ≡ child_of (node_of (get m dir)) name) [
      | inl s ↦ ap (λ f. child_of (node_of (get (records_after m e) f)) name) s ∙ ap (λ o. child_of o name) (node_changed m e)
          ∙ child_kept dir name e (node_of (get m (changed_file e))) apart s ∙ ap (λ f. child_of (node_of (get m f)) name) (sym s)
      | inr other ↦ ap (λ (o : Option Record). child_of (node_of o) name) (node_beside m e dir other)
    ]

child_all : (m : RecordMap) (dir name : List ℕ) (es : List Effect) → ((e : Effect) → In e es → IsApart (SetChild dir name None) e)
    → child_of (node_of (get (records_after_all m es) dir)) name ≡ child_of (node_of (get m dir)) name
child_all m dir name [] apart = refl
child_all m dir name (e ∷ es) apart =
    child_all (records_after m e) dir name es (λ x i. apart x (inr i)) ∙ child_one m dir name e (apart e (inl refl))

pub apart_left : (m : RecordMap) (d : Effect) (es : List Effect) → ((e : Effect) → In e es → IsApart d e)
    → PlaceLeft m (records_after_all m es) d
apart_left m (SetParent file dir name) es apart =
    ap (option_map (λ (place : List ℕ × List ℕ). place.0)) (place_all m file dir name es apart)
apart_left m (SetChild dir name None) es apart = child_all m dir name es apart
apart_left m (SetChild dir name (Some z)) es apart = tt
apart_left m (NewNode a b x z) es apart = tt
apart_left m (RemoveNode a) es apart = tt
apart_left m (AddHandle a b x z) es apart = tt
apart_left m (RemoveHandle a b x) es apart = tt
apart_left m (SetInfo a b x) es apart = tt

-- what changes nothing but what a file has inside
place_inside : (file dir name : List ℕ) (e : Effect) → IsInside e → IsApart (SetParent file dir name) e
place_inside file dir name (AddHandle f x y z) i = λ s. tt
place_inside file dir name (RemoveHandle f x y) i = λ s. tt
place_inside file dir name (SetInfo f x y) i = λ s. tt
place_inside file dir name (SetChild a b z) i = absurd i
place_inside file dir name (SetParent a b z) i = absurd i
place_inside file dir name (NewNode a b x z) i = absurd i
place_inside file dir name (RemoveNode a) i = absurd i

name_inside : (dir name : List ℕ) (e : Effect) → IsInside e → IsApart (SetChild dir name None) e
name_inside dir name (AddHandle f x y z) i = λ s. tt
name_inside dir name (RemoveHandle f x y) i = λ s. tt
name_inside dir name (SetInfo f x y) i = λ s. tt
name_inside dir name (SetChild a b z) i = absurd i
name_inside dir name (SetParent a b z) i = absurd i
name_inside dir name (NewNode a b x z) i = absurd i
name_inside dir name (RemoveNode a) i = absurd i

pub inside_left : (m : RecordMap) (d : Effect) (es : List Effect) → ((e : Effect) → In e es → IsInside e)
    → PlaceLeft m (records_after_all m es) d
inside_left m (SetParent file dir name) es inside =
    apart_left m (SetParent file dir name) es (λ e i. place_inside file dir name e (inside e i))
inside_left m (SetChild dir name None) es inside =
    apart_left m (SetChild dir name None) es (λ e i. name_inside dir name e (inside e i))
inside_left m (SetChild dir name (Some z)) es inside = tt
inside_left m (NewNode a b x z) es inside = tt
inside_left m (RemoveNode a) es inside = tt
inside_left m (AddHandle a b x z) es inside = tt
inside_left m (RemoveHandle a b x) es inside = tt
inside_left m (SetInfo a b x) es inside = tt

-- what is on its way and apart from it leaves it too
in_beside : (dir0 : Option (List ℕ)) (file dir name : List ℕ) (d : Effect) → IsApart d (SetParent file dir name) → LeavesIn dir0 file d
in_beside dir0 file dir name (SetParent g a b) apart = λ s. absurd (apart s)
in_beside dir0 file dir name (RemoveNode g) apart = λ s. apart s
in_beside dir0 file dir name (SetChild a b z) apart = tt
in_beside dir0 file dir name (NewNode a b x z) apart = tt
in_beside dir0 file dir name (AddHandle a b x z) apart = tt
in_beside dir0 file dir name (RemoveHandle a b x) apart = tt
in_beside dir0 file dir name (SetInfo a b x) apart = tt

name_beside : (dir name : List ℕ) (d : Effect) → IsApart d (SetChild dir name None) → LeavesName dir name d
name_beside dir name (SetChild a b None) apart = λ s n. apart s n
name_beside dir name (RemoveNode g) apart = λ s. apart s
name_beside dir name (SetChild a b (Some z)) apart = tt
name_beside dir name (SetParent g a b) apart = tt
name_beside dir name (NewNode a b x z) apart = tt
name_beside dir name (AddHandle a b x z) apart = tt
name_beside dir name (RemoveHandle a b x) apart = tt
name_beside dir name (SetInfo a b x) apart = tt

-- so it leaves what the effect changes as it is
pub beside_left : (m : RecordMap) (e : Effect) (ds : List Effect) → AreDecided ds → ((d : Effect) → In d ds → IsApart d e)
    → PlaceLeft (records_after_all m ds) m e
beside_left m (SetParent file dir name) ds decided apart =
    sym (dir_all m file ds decided (λ d i. in_beside (dir_here m file) file dir name d (apart d i)))
beside_left m (SetChild dir name None) ds decided apart =
    sym (name_all m dir name ds decided (λ d i. name_beside dir name d (apart d i)))
beside_left m (SetChild dir name (Some z)) ds decided apart = tt
beside_left m (NewNode a b x z) ds decided apart = tt
beside_left m (RemoveNode a) ds decided apart = tt
beside_left m (AddHandle a b x z) ds decided apart = tt
beside_left m (RemoveHandle a b x) ds decided apart = tt
beside_left m (SetInfo a b x) ds decided apart = tt

-- ## What was made

-- what was made is of the kind with which it was made
abbrev pub StaysMade : List Item → List Item → Type 0
StaysMade is more = (f : List ℕ) (kind : Kind) → made is f ≡ Some kind → made more f ≡ Some kind

pub made_pushed : (i : Option Item) (is : List Item) → StaysMade is (pushed i is)
made_pushed None is f kind h = h
made_pushed (Some i) is f kind h = made_one is i f kind h

-- ## A part that keeps what it has to keep

pub kept_then : (m n : RecordMap) (is more : List Item) (p : Part) (e : Effect) → PlaceLeft m n e → StaysMade is more → IsKeptFor m is p e
    → IsKeptFor n more p e
kept_then m n is more p (SetParent file dir name) left stays h =
    elim h as (λ _. (made more file ≡ Some File) ⊎ ((p.freeze ≡ Some file) ⊎ (dir_here n file ≡ Some dir))) [
      | inl e ↦ inl (stays file File e)
      | inr (inl e) ↦ inr (inl e)
      | inr (inr e) ↦ inr (inr (left ∙ e))
    ]
kept_then m n is more p (SetChild dir name None) left stays h =
    λ file e. elim (h file (sym left ∙ e)) as (λ _. (made more file ≡ Some File) ⊎ (p.freeze ≡ Some file)) [
      | inl q ↦ inl (stays file File q)
      | inr q ↦ inr q
    ]
kept_then m n is more p (RemoveNode file) left stays h = elim h as (λ _. (made more file ≡ Some File) ⊎ (p.freeze ≡ Some file)) [
  | inl e ↦ inl (stays file File e)
  | inr e ↦ inr e
]
kept_then m n is more p (SetChild dir name (Some z)) left stays h = tt
kept_then m n is more p (NewNode a b x z) left stays h = tt
kept_then m n is more p (AddHandle a b x z) left stays h = tt
kept_then m n is more p (RemoveHandle a b x) left stays h = tt
kept_then m n is more p (SetInfo a b x) left stays h = tt
