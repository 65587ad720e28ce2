-- How a command of a plan ends, from what was found at its path.
use Rattle.std.proofs.Common.{◌≡◌, ◌∙◌, ◌⊎◌, ◌↔◌, inl, inr, ℕ, Bool, true, false, ◌||◌, List, Option, Some, None, is_some, option_map, take, refl, sym, ap, subst}
use Rattle.std.specs.FinMap as map
use Rattle.cy_outside.specs.Files.{Files, ReadsFront}
use Rattle.dsdl_types.specs.declared.namespace.Namespace.{Namespace}
use Rattle.dsdl_resolve.specs.Laws.{HaveOneAnswer}
use Rattle.node_plan.specs.Laws.{OnePlan}
use Rattle.node_plan.specs.Plan.{PlanIs, Good, Bad, IsPlanOf}
use Rattle.node_plan.specs.declared.plan.Plan.{Plan}
use Rattle.node_plan.specs.declared.plan.PlanError.{PlanError}
use Rattle.node_plan.specs.declared.plan.PlanError.TheVariants as plan_error
use Rattle.node_plan.specs.declared.plan.PlanWhy.{PlanWhy}
use Rattle.node_run.specs.Loaded.{is_none}
use Rattle.node_run.specs.declared.status.Status.{Status}
use Rattle.node_run.specs.declared.status.Status.TheVariants as status
use Rattle.cyphal.specs.Job.{is_fault}
use Rattle.cyphal.specs.Plans.{PlanEnds, EndsAs, EndsOnFile, EndsIn, EndsAt, without_plan, GivesPlan, PlanAt}
use Rattle.cyphal.proofs.Loaded.{Comes, loaded, Found, found_told, one_names, not_loaded, one}

-- the first bytes of a text that count have its meaning
abbrev pub AreEnough : Namespace → ℕ → Type 0
AreEnough names most = (all : List ℕ) (is : PlanIs) → IsPlanOf names (take most all) is ↔ IsPlanOf names all is

module _ (names : Namespace) (path : List ℕ) (most : ℕ) where
  -- the file at the path, where the files are told
  pub record FileFound (fs : Files) (text : List ℕ) : Type 0 where
    pub all : List ℕ
    pub is : map.get fs path ≡ Some all
    pub front : text ≡ take most all
    pub plan : (is : PlanIs) → IsPlanOf names text is → IsPlanOf names all is

  pub file_found : (fs : Files) (text : List ℕ) → ReadsFront (Some fs) path most (Some text) → AreEnough names most → FileFound fs text
  file_found fs text r enough = by_file (map.get fs path) refl
    where
      by_file : (file : Option (List ℕ)) → map.get fs path ≡ file → FileFound fs text
      by_file None e = let bad : Some text ≡ None = r ∙ ap (option_map (take most)) e in absurd cc
      by_file (Some all) e =
          let front : Some text ≡ Some (take most all) = r ∙ ap (option_map (take most)) e in
          let same : text ≡ take most all = cc in record { all = all; is = e; front = same; plan = λ is p. (enough all is).0 (subst (λ t. IsPlanOf names t is) same p) }

  none_there : (fs : Files) → ReadsFront (Some fs) path most None → map.get fs path ≡ None
  none_there fs r = by_file (map.get fs path) refl
    where
      by_file : (file : Option (List ℕ)) → map.get fs path ≡ file → map.get fs path ≡ None
      by_file None e = e
      by_file (Some all) e = let bad : None ≡ Some (take most all) = r ∙ ap (option_map (take most)) e in absurd cc

  -- the path has no file
  pub missing_ends : (files : Option Files) (stat : Status) → ReadsFront files path most None → (stat ≡ status.NoFile path) ⊎ (stat ≡ status.NoMemory) → is_fault stat ≡ false → EndsIn without_plan names path files stat
  missing_ends None stat r s h = tt
  missing_ends (Some fs) stat r (inl s) h = subst (λ o. EndsOnFile without_plan names path o stat) (sym (none_there fs r)) s
  missing_ends (Some fs) stat r (inr s) h = let bad : true ≡ false = sym (ap is_fault s) ∙ h in absurd cc

  -- the plan is refused
  refused_ends : (files : Option Files) (text : List ℕ) (stat : Status) (n : ℕ) (w : PlanWhy) → ReadsFront files path most (Some text) → AreEnough names most
      → IsPlanOf names text (Bad n w) → stat ≡ status.Plan n w → EndsIn without_plan names path files stat
  refused_ends None text stat n w r enough e s = tt
  refused_ends (Some fs) text stat n w r enough e s =
      let f = file_found fs text r enough in
      subst (λ o. EndsOnFile without_plan names path o stat) (sym f.is) (record { plan = Bad n w; is = f.plan (Bad n w) e; end = s })

  pub error_ends : (files : Option Files) (text : List ℕ) (stat : Status) (error : PlanError) → ReadsFront files path most (Some text) → AreEnough names most
      → ((n : ℕ) (w : PlanWhy) → error ≡ plan_error.Refused n w → IsPlanOf names text (Bad n w)) → (error ≡ plan_error.NoMemory → stat ≡ status.NoMemory) → ((n : ℕ) (w : PlanWhy) → error ≡ plan_error.Refused n w → stat ≡ status.Plan n w)
      → is_fault stat ≡ false → EndsIn without_plan names path files stat
  error_ends files text stat (plan_error.Refused n w) r enough e m s h = refused_ends files text stat n w r enough (e n w refl) (s n w refl)
  error_ends files text stat plan_error.NoMemory r enough e m s h = let bad : true ≡ false = sym (ap is_fault (m refl)) ∙ h in absurd cc

  -- the file at the path is a plan
  pub gives_plan : (files : Option Files) (text : List ℕ) (plan : Plan) → ReadsFront files path most (Some text) → AreEnough names most → IsPlanOf names text (Good plan) → GivesPlan names path files plan
  gives_plan None text plan r enough e = tt
  gives_plan (Some fs) text plan r enough e = let f = file_found fs text r enough in (f.all, f.is, f.plan (Good plan) e)

-- a command that has no plan ends so whatever is done with one
as_ends : (ends : PlanEnds) (is : PlanIs) (stat : Status) → EndsAs without_plan is stat → EndsAs ends is stat
as_ends ends (Bad n w) stat e = e
as_ends ends (Good plan) stat e = absurd e

file_ends : (ends : PlanEnds) (names : Namespace) (path : List ℕ) (file : Option (List ℕ)) (stat : Status) → EndsOnFile without_plan names path file stat → EndsOnFile ends names path file stat
file_ends ends names path None stat e = e
file_ends ends names path (Some text) stat e = record { plan = e.plan; is = e.is; end = as_ends ends e.plan stat e.end }

names_ends : (ends : PlanEnds) (names : Namespace) (path : List ℕ) (files : Option Files) (stat : Status) → EndsIn without_plan names path files stat → EndsIn ends names path files stat
names_ends ends names path None stat e = tt
names_ends ends names path (Some fs) stat e = file_ends ends names path (map.get fs path) stat e

pub refused_at : (ends : PlanEnds) (root path : List ℕ) (files : Option Files) (stat : Status) → EndsAt without_plan root path files stat → EndsAt ends root path files stat
refused_at ends root path files stat (h, inl n) = (h, inl n)
refused_at ends root path files stat (h, inr e) = (h, inr (record { names = e.names; is = e.is; end = names_ends ends e.names path files stat e.end }))

-- a command that has a plan ends as over that plan
good_in : (ends : PlanEnds) (names : Namespace) (path : List ℕ) (files : Option Files) (stat : Status) (plan : Plan) → GivesPlan names path files plan → ends plan stat → EndsIn ends names path files stat
good_in ends names path None stat plan gives e = tt
good_in ends names path (Some fs) stat plan gives e =
    subst (λ o. EndsOnFile ends names path o stat) (sym gives.1) (record { plan = Good plan; is = gives.2; end = e })

pub good_at : (ends : PlanEnds) (root path : List ℕ) (files : Option Files) (stat : Status) (plan : Plan) → PlanAt root path files plan → ends plan stat → is_fault stat ≡ false → EndsAt ends root path files stat
good_at ends root path files stat plan at e h =
    (h, inr (record { names = at.names; is = at.is; end = good_in ends at.names path files stat plan at.gives e }))

-- where the files are told, nothing more has to be for a root
told_root : (root : List ℕ) (files : Option Files) → is_some files ≡ true → (is_none root || is_some files) ≡ true
told_root root files h = either_way (is_none root) h
  where
    either_way : (b : Bool) → is_some files ≡ true → (b || is_some files) ≡ true
    either_way true h = refl
    either_way false h = h

-- over a plan there is one status
abbrev pub IsOneOver : PlanEnds → Type 0
IsOneOver ends = (plan : Plan) (s t : Status) → ends plan s → ends plan t → s ≡ t

one_as : (ends : PlanEnds) → IsOneOver ends → (is : PlanIs) (s t : Status) → EndsAs ends is s → EndsAs ends is t → s ≡ t
one_as ends single (Bad n w) s t a b = a ∙ sym b
one_as ends single (Good plan) s t a b = single plan s t a b

one_on_file : OnePlan → (ends : PlanEnds) → IsOneOver ends → (names : Namespace) (path : List ℕ) (file : Option (List ℕ)) (s t : Status) → EndsOnFile ends names path file s → EndsOnFile ends names path file t → s ≡ t
one_on_file law ends single names path None s t a b = a ∙ sym b
one_on_file law ends single names path (Some text) s t a b =
    one_as ends single a.plan s t a.end (subst (λ p. EndsAs ends p t) (law names text b.plan a.plan b.is a.is) b.end)

one_in : OnePlan → (ends : PlanEnds) → IsOneOver ends → (path : List ℕ) (files : Option Files) → is_some files ≡ true → (names : Namespace) (s t : Status) → EndsIn ends names path files s → EndsIn ends names path files t → s ≡ t
one_in law ends single path None h names s t a b = absurd cc
one_in law ends single path (Some fs) h names s t a b = one_on_file law ends single names path (map.get fs path) s t a b

module _ (laws : HaveOneAnswer × OnePlan) (root path : List ℕ) where
  -- a file has one plan
  pub one_plan : (tree : Files) (a b : Plan) → PlanAt root path (Some tree) a → PlanAt root path (Some tree) b → a ≡ b
  one_plan tree a b x y =
      let same : x.names ≡ y.names = one_names laws.0 root (Some tree) (found_told (is_none root) root (Some tree) refl (told_root root (Some tree) refl)) x.names y.names x.is y.is in
      let text : Some x.gives.0 ≡ Some y.gives.0 = sym x.gives.1 ∙ y.gives.1 in
      let read : x.gives.0 ≡ y.gives.0 = cc in
      let moved : IsPlanOf y.names y.gives.0 (Good a) = subst (λ (n : Namespace). IsPlanOf n y.gives.0 (Good a)) same (subst (λ t. IsPlanOf x.names t (Good a)) read x.gives.2) in
      let good : Good a ≡ Good b = laws.1 y.names y.gives.0 (Good a) (Good b) moved y.gives.2 in cc

  comes_at : (ends : PlanEnds) (files : Option Files) (f : Found root files) (stat : Status) → EndsAt ends root path files stat → Comes root (λ names s. EndsIn ends names path files s) f.found stat
  comes_at ends files f stat (h, inl n) = not_loaded root (λ names s. EndsIn ends names path files s) files f stat h n
  comes_at ends files f stat (h, inr e) = loaded e.is.files e.names (f.are e.is.files e.is.are) e.is.compiled e.end

  -- so there is one status where the files are told
  pub one_end : (ends : PlanEnds) → IsOneOver ends → (files : Option Files) → is_some files ≡ true → (s t : Status) → EndsAt ends root path files s → EndsAt ends root path files t → s ≡ t
  one_end ends single files h s t a b =
      let f = found_told (is_none root) root files refl (told_root root files h) in
      one laws.0 root (λ names s. EndsIn ends names path files s) (one_in laws.1 ends single path files h) f.found s t (comes_at ends files f s a) (comes_at ends files f t b)
