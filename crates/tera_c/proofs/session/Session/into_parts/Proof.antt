-- `into_parts` looks at the pointer, and moves it; what it owns goes with it.
use Rattle.std.proofs.Common.{◌≡◌, List, [], ◌∷◌, ◌++◌, refl, sym, ap, subst, ◌∙◌, lit<, None, Some}
use Rattle.std.proofs.raw_atomic.Walks.{proved_at}
use mir.Val.{Val, vnull, vptr, vcons, vnil}
use base.Logic.{ent}
use base.Fml.{ftrue, fsep}
use prog.Wp.{WpFn}
use contract.Running.{tables}
use types.Kit.{Item, at_ret, ‵, ◌⊛◌, ◌$◌, ◌∵◌, !, qed, by, done, move, keep, drop, split, join, fsplit, fjoin, suffices, use0, use1, ⋆}
use types.Match.{live}
use types.Part.{agg, sub, whole}
use types.Run.{stop, fld, lit, bin, of_opd, enter, no_more, and_then, first, branches, exec, returns}
use types.ByLocal.{alloc_all, pass_all, free_all, look_at, get, get_in, sets, sets_last, env}
use denote.Exit.{yes}
use denote.RattleType.{RattleType}
use denote.RawPtr.{Ptr, block_ptr, null_ptr, ptr_val, tests_null}
use denote.Param.{layout}
use denote.Signature.{type_at}
use denote.Steps.{nothing}
use denote.Triple.Walked.{Stays, walk_of, says, stay_dropped, Goes-dropped, ends_at}
use Rattle.core.proofs.alloc.Shapes.{after}
use Rattle.core.proofs.cell.Inside.{Good}
use Rattle.core.proofs.option.Made.{Some-of, none_of}
use Rattle.std.proofs.alloc.Calls.{handle_tells}
use Rattle.std_alloc.proofs.BoxSteps.Form.{D, word, box_typed}
use Rattle.std_alloc.proofs.BoxSteps.Steps.{box_in}
use Rattle.std_alloc.proofs.ResultValues.{and_tt}
use Rattle.tera_c.proofs.SessionSteps.{E, FromParts, FromSession, FromGlobal, either_held, session_out, word as one_word}
use Rattle.tera_c.specs.contracts.session.Session as session
use Rattle.tera_c.specs.contracts.session.Session.into_parts as f
use Rattle.tera_c.proofs.session.Session.into_parts.Statement.{statement}
use Rattle.tera_c.proofs.session.Session.into_parts.Code as code

abbrev stayed : Stays f.ended.signature.params f.ended.kept
stayed = (stay_dropped FromSession yes, (stay_dropped FromGlobal yes, tt))

pub into_parts_spec : {M : Type 1} → statement M
into_parts_spec 𝓤 𝓛 𝓜 𝓡 wired =
    let H = 𝓛.H in let c = f.clauses 𝓛 𝓜.mem 𝓡.returns in let W = walk_of 𝓛 f.ended stayed c in let 𝓣 = tables 𝓤 H 𝓜 𝓡 𝓡.env in let fn = code.function in
    proved_at 𝓛 f.ended stayed c 𝓜 𝓡 (Goes-dropped 𝓛 0 FromSession yes (λ κs x w. refl), (Goes-dropped 𝓛 0 FromGlobal yes (λ κs x w. refl), tt))
    f.Key.name fn (code.unfolded 𝓤 H 𝓜 𝓡 wired) (λ z are.
    let d = z.0.3.0 in let a = z.0.3.1.0 in let Out : RattleType = type_at f.ended.signature.result z.0.0 in let P : RattleType = FromParts.row z.0.0 in
    let runs = λ (w hv : Val) (Γ : List (Item 𝓤)) (p : Ptr) (is : z.0.4.0 ≡ one_word (ptr_val d.pointer) ∷ []) (e : d.pointer ≡ p) (ea : z.0.4.1.0 ≡ hv ∷ [])
    (enters : ent 𝓤 (⋆ 𝓛 Γ) (WpFn 𝓤 H 𝓣.C 𝓣.Λ fn (one_word (ptr_val p) ∷ hv ∷ []) (W.post z))).
    subst (λ (us : List Val). ent 𝓤 (⋆ 𝓛 Γ) (WpFn 𝓤 H 𝓣.C 𝓣.Λ fn (us ++ (z.0.4.1.0 ++ [])) (W.post z))) (sym (is ∙ ap
    (λ (q : Ptr). one_word (ptr_val q) ∷ []) e))
    (subst (λ (us : List Val). ent 𝓤 (⋆ 𝓛 Γ) (WpFn 𝓤 H 𝓣.C 𝓣.Λ fn (one_word (ptr_val p) ∷ (us ++ [])) (W.post z))) (sym ea) enters) in
    qed 𝓛 ((‵ ftrue ⊛ ‵ (fsep (session.the_row.own_val d z.0.4.0) (fsep (E.al.row.own_val a z.0.4.1.0) ftrue))) ∷ ‵ ftrue ∷ []) ∵
    split ! $ drop ! $ fsplit ! $ session_out ! d z.0.4.0 (λ is.
    move ! (1 ∷ []) $ fsplit ! $ handle_tells E.al ! a z.0.4.1.0 (λ hv ea fa. move ! (2 ∷ []) $
    either_held ! d.pointer d.inner
    (λ shut e. use0 𝓛 (‵ (Out.own_val None (live 0 vnil ∷ []))) (none_of 𝓛 P) $ keep ! (0 ∷ []) $
    let out = live 0 vnil in let Γ : List (Item 𝓤) = ‵ (Out.own_val None (out ∷ [])) ∷ [] in
    by ! (runs out hv Γ null_ptr is e ea (qed 𝓛 Γ ∵ enter ! 𝓣.C 𝓣.Λ fn (one_word vnull ∷ hv ∷ []) _ $ alloc_all ! (λ l.
    pass_all ! refl ((tt, (record { fits = lit< tt }, tt)), (fa, tt)) $
    sets ! (of_opd ! (get_in ! (fld ! refl (stop !)) (sub ! 0 refl (whole !)))) refl (tt, record { fits = lit< tt }) $
    sets ! (bin ! (get ! refl) (lit ! tt) tt) refl (tt, tt) $ first ! $ branches ! (get ! refl)
    (λ _. sets_last ! (agg ! (and_then ! (lit ! tt) (no_more !))) refl (tt, (record { fits = lit< tt }, tt)) $
    exec ! 𝓣.C 𝓣.Λ (env fn.locals l) (after 3 fn.body) (at_ret (env fn.locals l) (W.post z)) $
    sets ! (of_opd ! (get ! refl)) refl (tt, (record { fits = lit< tt }, tt)) $ returns ! (look_at ! 0 refl) $ free_all ! refl $
    suffices ! _ (ends_at 𝓛 f.ended stayed c z out None (tt, (tt, tt)) (tt, (tt, tt))) $ says ! shut $
    nothing ! $ nothing ! $ fjoin ! $ nothing ! $ fjoin ! $ join ! $ nothing ! $ join ! $ done !)
    (λ wrong. absurd wrong)))))
    (λ b o x is_open e may. fsplit ! $ move ! (0 ∷ 1 ∷ 2 ∷ []) $
    let made : D E = record { ptr = block_ptr b o; alloc = a; value = x } in let held = word E hv b o in let out = live 1 (vcons held vnil) in
    let part : P.Denot = record { ptr = block_ptr b o; alloc = a; value = x } in
    let typed = box_typed E hv b o fa in let good : Good (layout Out) out = (and_tt _ typed.0, (record { fits = lit< tt }, (typed.1, tt))) in
    box_in E ! made b o x refl refl $ use1 𝓛 (‵ (Out.own_val (Some part) (out ∷ []))) (Some-of 𝓛 P part held) $ keep ! (0 ∷ []) $
    let Γ : List (Item 𝓤) = ‵ (Out.own_val (Some part) (out ∷ [])) ∷ [] in
    by ! (runs out hv Γ (block_ptr b o) is e ea (qed 𝓛 Γ ∵ enter ! 𝓣.C 𝓣.Λ fn (one_word (vptr b o) ∷ hv ∷ []) _ $ alloc_all ! (λ l.
    pass_all ! refl ((tt, (tt, tt)), (fa, tt)) $
    sets ! (of_opd ! (get_in ! (fld ! refl (stop !)) (sub ! 0 refl (whole !)))) refl (tt, tt) $
    sets ! (bin ! (get ! refl) (lit ! tt) (tests_null (block_ptr b o) may)) refl (tt, tt) $ first ! $ branches ! (get ! refl) (λ wrong. absurd wrong)
    (λ _. sets ! (of_opd ! (get ! refl)) refl (tt, tt) $ sets ! (agg ! (and_then ! (get ! refl) (and_then ! (get ! refl) (no_more !)))) refl typed $
    sets_last ! (agg ! (and_then ! (lit ! tt) (and_then ! (get ! refl) (no_more !)))) refl good $
    exec ! 𝓣.C 𝓣.Λ (env fn.locals l) (after 3 fn.body) (at_ret (env fn.locals l) (W.post z)) $
    sets ! (of_opd ! (get ! refl)) refl good $ returns ! (look_at ! 0 refl) $ free_all ! refl $
    suffices ! _ (ends_at 𝓛 f.ended stayed c z out (Some part) (tt, (tt, tt)) (tt, (tt, tt))) $ says ! is_open $
    nothing ! $ nothing ! $ fjoin ! $ nothing ! $ fjoin ! $ join ! $ nothing ! $ join ! $ done !))))))))
