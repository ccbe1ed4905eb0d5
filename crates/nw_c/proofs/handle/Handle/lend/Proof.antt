-- `lend` lends the content behind the pointer, and the handle follows it.
use mathlib.Core.Path.{◌≡◌, refl, sym}
use Prim.Native.Nat.{ℕ}
use mathlib.Core.Bool.{Bool, true}
use mathlib.Core.List.{List, [], ◌∷◌}
use seplogic.Ra.Ura.{Ura}
use base.Fraction.{full_share}
use mir.Syntax.{named}
use mir.Val.{Val, vptr}
use mir.Raw.{raw as bare}
use base.Logic.{SProp, ent, sep, id⊢}
use base.Fml.{Lft, GName, Share, Fml, ftrue, flft, fsep}
use prog.Memory.{Memory}
use prog.Routine.{Routine}
use prog.Wp.{Env, WpFn, Tables}
use types.Logic.{Logic, sem}
use contract.Monad.{Fun, fact}
use contract.Running.{tables, tables_of}
use sound.WpLaws.{WpFn-mono}
use types.Kit.{Item, ‵, ◌⊛◌, some, at_ret, ◌$◌, ◌∵◌, !, qed, by, move, keep, use1, drop, split, join, pick, fsplit, fsplit3, fjoin, suffices, frame, done, raw, later, await, group, fpack, rewrite}
use types.Part.{whole, sub, look_in}
use types.Run.{stop, fld, load, of_opd, first, blocks, exec, returns, enter, addr}
use types.ByLocal.{alloc_all, pass_all, free_all, look_at, get, through, sets, env, sets_last}
use denote.RattleType.{owns}
use denote.Memory.{part_at, mem, cell_at, part_of}
use denote.RawPtr.{block_ptr}
use denote.Ref.{MutRef, mut_vals, mut_Tells}
use denote.Signature.{plain, mut_ref_to}
use denote.Steps.{nothing, heard, opens}
use denote.Triple.Entry.{on_entry}
use denote.Triple.Spec.{triple_of}
use denote.Triple.Table.{entered}
use denote.Triple.Walked.{says, Stays, stay_dropped, walk_of, ends_at, walked, walk_Meets, Goes-spent_ref}
use denote.Exit.{no}
use denote.Follow.{follows, Part, lends_Part}
use Rattle.core.proofs.alloc.Calls.{token}
use Rattle.std_alloc.proofs.VecSteps.Shapes.{after}
use Rattle.std_alloc.proofs.BoxSteps.Form.{D, B, R, τ, word, handle}
use Rattle.std_alloc.proofs.BoxSteps.Steps.{box_out, box_in}
use Rattle.nw_c.specs.declared.content.Content.{Content}
use Rattle.nw_c.specs.contracts.content.Content.{the_row as Held}
use Rattle.nw_c.proofs.AsBox.{E}
use Rattle.nw_c.specs.Lent.{with_value}
use Rattle.nw_c.specs.contracts.handle.Handle.{the_row as Handle}
use Rattle.nw_c.specs.contracts.handle.Handle.lend as F
use Rattle.nw_c.specs.contracts.handle.Handle.lend.Key.{name as #self}
use Rattle.nw_c.proofs.handle.Handle.lend.Statement as stated
use Rattle.nw_c.proofs.handle.Handle.lend.Code as code

abbrev stayed : Stays F.ended.signature.params F.ended.kept
stayed = (stay_dropped (mut_ref_to (0 ∷ []) tt (plain (λ _. Handle))) no, tt)

module _ {M : Type 1} {𝓤 : Ura M} (𝓛 : Logic 𝓤) (at_mem : Memory → SProp 𝓤) (run : Routine → Fun 𝓤) (κ : Lft) (q : Share) (rb ro : ℕ) (γ : GName) (h : Handle.Denot) where
  open 𝓛 use {H, A}

  abbrev bound : (walk_of 𝓛 F.ended stayed (F.clauses 𝓛 at_mem run)).Ghost
  bound = (((κ, tt), (q, tt), tt, (record { ref_ptr = (rb, ro); ghost_name = γ; now = h }, tt), (vptr rb ro ∷ [], tt)), tt)

  abbrev Post : Val → SProp 𝓤
  Post = (walk_of 𝓛 F.ended stayed (F.clauses 𝓛 at_mem run)).post bound

  -- the handle as a box, and the handle as open or closed
  abbrev boxed : Content → D E
  boxed xs = record { ptr = h.at; alloc = h.alloc; value = xs }

  abbrev held_as : Content → List Val → Bool → Item 𝓤
  held_as xs vs k = ‵ (Handle.own_val (record { at = h.at; alloc = h.alloc; held = k; value = xs }) vs)

  module _ (b o : ℕ) (hv : Val) where
    -- all of the handle but its content
    abbrev Rest : Fml
    Rest = fsep (fsep (token E.al h.alloc (bare (τ E)) (block_ptr b o)) (handle E h.alloc hv)) (cell_at full_share Handle.mir (word E hv b o ∷ []) rb ro)

    back : h.held ≡ true → h.at ≡ block_ptr b o → (w : Content) → ent 𝓤 (sep 𝓤 (sem 𝓛 ((mem Held).own_at w b o)) (sem 𝓛 Rest)) (sem 𝓛 ((mem Handle).own_at (with_value h w) rb ro))
    unfolding part_of
    back is_held at_b w =
        qed 𝓛 (‵ (part_at (R E) full_share w b o) ∷ ‵ Rest ∷ []) ∵ move ! (1 ∷ []) $ fsplit ! $ fsplit ! $ move ! (3 ∷ []) $
        box_in E ! (boxed w) b o w at_b refl $ use1 𝓛 (held_as w (word E hv b o ∷ []) true) (id⊢ 𝓤 _) $ rewrite ! 0 (held_as w (word E hv b o ∷ [])) (sym is_held) refl $ move ! (1 ∷ 0 ∷ []) $ fjoin ! $
        fpack ! (List Val) (λ us. fsep (cell_at full_share Handle.mir us rb ro) (Handle.own_val (with_value h w) us)) (word E hv b o ∷ []) $ done !

    exits : (γ' : GName)
        → ent 𝓤 (sep 𝓤 (sem 𝓛 ((MutRef (named 0) κ Held).own_val (record { ref_ptr = (b, o); ghost_name = γ'; now = h.value }) (vptr b o ∷ []))) (sep 𝓤 (A.lft κ q) (sem 𝓛 (follows Handle Held γ γ' (with_value h))))) (Post (vptr b o))
    exits γ' =
        qed 𝓛 (‵ ((MutRef (named 0) κ Held).own_val (record { ref_ptr = (b, o); ghost_name = γ'; now = h.value }) (vptr b o ∷ [])) ∷ ‵ (flft κ q) ∷ ‵ (follows Handle Held γ γ' (with_value h)) ∷ []) ∵
        suffices ! _ (ends_at 𝓛 F.ended stayed (F.clauses 𝓛 at_mem run) bound (vptr b o) (record { ref_ptr = (b, o); ghost_name = γ'; now = h.value }) (tt, tt) (tt, tt)) $
        nothing ! $ nothing ! $ fjoin ! $ join ! $ nothing ! $ move ! (2 ∷ 0 ∷ []) $ join ! $ join ! $ frame ! $ says ! refl $ done !

  module _ (𝓣 : Tables 𝓤 H) where
    walk : ent 𝓤 (sep 𝓤 (on_entry 𝓛 F.ended.signature (κ, tt) (q, tt) (record { ref_ptr = (rb, ro); ghost_name = γ; now = h }, tt) (vptr rb ro ∷ [], tt)) (fact 𝓤 (h.held ≡ true))) (WpFn 𝓤 H 𝓣.C 𝓣.Λ code.function (vptr rb ro ∷ []) Post)
    walk =
        qed 𝓛 (((‵ (flft κ q) ⊛ ‵ ftrue) ⊛ ‵ (owns (MutRef (named 0) κ Handle ∷ []) (record { ref_ptr = (rb, ro); ghost_name = γ; now = h }, tt) (vptr rb ro ∷ [], tt))) ∷ raw (fact 𝓤 (h.held ≡ true)) ∷ []) ∵
        move ! (1 ∷ []) $ heard ! (h.held ≡ true) (λ is_held. split ! $
        enter ! 𝓣.C 𝓣.Λ code.function (vptr rb ro ∷ []) _ $
        alloc_all ! (λ l. pass_all ! refl ((tt, tt), tt) $
        let En : Env 𝓤 H = env (code.function).locals l in
        move ! (1 ∷ []) $ fsplit ! $ fsplit3 ! $ drop ! $ move ! (3 ∷ []) $ split ! $ move ! (2 ∷ 3 ∷ 0 ∷ []) $
        opens ! tt Handle {h = h} rb ro (λ vs. move ! (1 ∷ []) $ rewrite ! 0 (held_as h.value vs) is_held refl $ use1 𝓛 (‵ ((B E).own_val (boxed h.value) vs)) (id⊢ 𝓤 _) $
        box_out E ! (boxed h.value) vs (λ b o hv at_b ws fa. move ! (1 ∷ 2 ∷ []) $ fjoin ! $ move ! (1 ∷ []) $
        rewrite ! 2 (λ (us : List Val). ‵ (cell_at full_share Handle.mir us rb ro)) ws refl $
        first ! $ blocks ! $
        sets ! (of_opd ! (load ! (through ! refl (fld ! refl (stop !))) (look_in ! 2 (sub ! 0 refl (whole !))))) refl (tt, tt) $
        sets ! (of_opd ! (get ! refl)) refl (tt, tt) $
        sets_last ! (addr ! (through ! refl (stop !))) refl (tt, tt) $
        exec ! 𝓣.C 𝓣.Λ En (after 1 (code.function).body) (at_ret En Post) $
        sets ! (of_opd ! (get ! refl)) refl (tt, tt) $
        move ! (1 ∷ 2 ∷ []) $ fjoin ! $ move ! (2 ∷ 3 ∷ 4 ∷ 1 ∷ 0 ∷ []) $ group ! 5 $
        use1 𝓛 (later (some (λ (γ' : GName). raw (Part 𝓛 Handle Held (with_value h) (named 0) κ q rb ro b o γ (sem 𝓛 (Rest b o hv)) (back b o hv is_held at_b) h.value γ'))))
        (lends_Part 𝓛 Handle Held (with_value h) (named 0) κ q rb ro b o γ (sem 𝓛 (Rest b o hv)) (back b o hv is_held at_b) (Handle.coded.code h) (Handle.coded.code h) h.value) $ await ! tt $ pick ! (λ γ'.
        returns ! (look_at ! 0 refl) $ free_all ! refl $
        keep ! (0 ∷ []) $ by ! (exits b o hv γ'))))))

pub lend_spec : {M : Type 1} → stated.statement M
unfolding tables_of
lend_spec 𝓤 𝓛 𝓜 𝓡 wired =
    let 𝓣 : Tables 𝓤 𝓛.H = tables_of 𝓤 𝓛.H 𝓜 (tables 𝓤 𝓛.H 𝓜 𝓡 𝓡.env) in
    entered 𝓤 𝓛.H (triple_of 𝓛 F.signature (F.spec 𝓛 𝓜.mem 𝓡.returns)) 𝓣.C 𝓣.Λ #self code.function (code.unfolded 𝓤 𝓛.H 𝓜 𝓡 wired)
    (walk_Meets 𝓛 F.ended stayed (Goes-spent_ref 𝓛 1 (0 ∷ []) tt (plain (λ _. Handle)), tt) (F.clauses 𝓛 𝓜.mem 𝓡.returns) (WpFn 𝓤 𝓛.H 𝓣.C 𝓣.Λ code.function) (WpFn-mono 𝓤 𝓛.H 𝓛.laws 𝓣 code.function)
    (walked 𝓛 F.ended stayed (F.clauses 𝓛 𝓜.mem 𝓡.returns) (WpFn 𝓤 𝓛.H 𝓣.C 𝓣.Λ code.function) (λ κs. (mut_vals, tt)) (λ κs. (mut_Tells (named 0) κs.0 Handle, tt))
    (λ κs qs bounds a g are. walk 𝓛 𝓜.mem 𝓡.returns κs.0 qs.0 a.0.ref_ptr.0 a.0.ref_ptr.1 a.0.ghost_name a.0.now 𝓣)))
