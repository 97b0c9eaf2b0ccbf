-- An entry whose rows stand, behind such entries, is admitted when it comes.
use Rattle.std.proofs.Common.{◌≡◌, true, List, [], ◌∷◌, ◌++◌, refl, inl, sym, subst}
use Rattle.std.specs.Prelude.{ℕ}
use Rattle.std.specs.List.{list_all}
use Rattle.fs_ident.specs.In.{In}
use Rattle.fs_ident.specs.declared.actor.Session.{Session}
use Rattle.fs_ident.proofs.Booleans.{both}
use Rattle.fs_ident.proofs.Standing.{In-behind, In-front}
use Rattle.fs_msg.specs.declared.client_msg.ClientMsg.TheVariants.{Ship}
use Rattle.fs_msg.specs.declared.entry.Entry.{Entry}
use Rattle.fs_model.specs.Asking.{home_of}
use Rattle.fs_msg.specs.declared.item.Item.{Item}
use Rattle.fs_record.specs.Effects.{tells_its_effects}
use Rattle.fs_server.specs.Server.{begun, is_mine}
use Rattle.fs_server.specs.Ships.{item_of, ship_from, with_entry}
use Rattle.fs_server.specs.Step.{step}
use Rattle.fs_server.specs.declared.event.ServerEvent.TheVariants.{FromClient}
use Rattle.fs_server.specs.declared.state.Server.{Server}
use Rattle.fs_server.proofs.OneByOne.{each_entry, entry_taken}
use Rattle.fs_serial.specs.Steps.{AllStand}

-- what was admitted stays so
still_admitted : (by : Session) (es : List Entry) (s : Server) (admitted : List Item) (i : Item) → In i admitted → In i (ship_from by es s admitted).admitted
still_admitted by es s admitted i = each_entry by (λ es s admitted x. In i admitted → In i x.admitted) (λ s admitted h. h) (λ e es s admitted x mine none p h. p (In-front i admitted (item_of by e ∷ []) h)) (λ e es s admitted at gaps why h. h) es s admitted

-- each of them is handed in where it belongs
abbrev AreMine : Server → List Entry → Type 0
AreMine s entries = list_all (λ (x : Entry). is_mine s (home_of x.op)) entries ≡ true

in_its_turn : (by : Session) (front : List Entry) (e : Entry) (rest : List Entry) (s : Server) (admitted : List Item) → AreMine s (front ++ e ∷ []) → AllStand s.rows by (front ++ e ∷ []) → In (item_of by e) (ship_from by (front ++ e ∷ rest) s admitted).admitted
in_its_turn by [] e rest s admitted mine h =
    subst (λ x. In (item_of by e) x.admitted) (sym (entry_taken by e rest s admitted (both (is_mine s (home_of e.op)) true mine).0 h.0))
    (still_admitted by rest (with_entry by e s) (admitted ++ item_of by e ∷ []) (item_of by e) (In-behind (item_of by e) admitted (item_of by e ∷ []) (inl refl)))
in_its_turn by (f ∷ fs) e rest s admitted mine h =
    let m = both (is_mine s (home_of f.op)) (list_all (λ (x : Entry). is_mine s (home_of x.op)) (fs ++ e ∷ [])) mine in
    subst (λ x. In (item_of by e) x.admitted) (sym (entry_taken by f (fs ++ e ∷ rest) s admitted m.0 h.0)) (in_its_turn by fs e rest (with_entry by f s) (admitted ++ item_of by f ∷ []) m.1 h.1)

pub admitted_at_once : (s : Server) (now : ℕ) (by : Session) (front rest : List Entry) (e : Entry) → list_all (λ (x : Entry). tells_its_effects x.op) (front ++ e ∷ rest) ≡ true → AreMine s (front ++ e ∷ []) → AllStand (begun now s).rows by (front ++ e ∷ [])
    → In (item_of by e) (step s now (FromClient by (Ship (front ++ e ∷ rest)))).out.admitted
admitted_at_once s now by front rest e tell mine h = rw (tell, In) (in_its_turn by front e rest (begun now s) [] mine h)
