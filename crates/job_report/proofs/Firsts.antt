-- The first of refusals in a row.
use Rattle.std.proofs.Common.{◌≡◌, List, [], ◌∷◌, ◌++◌, refl}
use Rattle.std.proofs.lemmas.Option.{none-some}
use Rattle.job_report.specs.declared.fault.JobFault.{JobFault}
use Rattle.job_report.specs.declared.fault.JobFault.TheVariants.{JobSyntax, JobField, JobLimit, OutOfMemory}
use Rattle.job_report.specs.Refusal.{FieldRefusal}
use Rattle.job_report.specs.Private.Fault.{TellsFirst}

-- what is told of the first refusals is told of all
pub tells_here : (a b : List FieldRefusal) (fault : JobFault) → TellsFirst a fault → TellsFirst (a ++ b) fault
tells_here (r ∷ a) b fault h = tells_cons r a b fault h
  where
    tells_cons : (r : FieldRefusal) (a b : List FieldRefusal) (fault : JobFault) → TellsFirst (r ∷ a) fault → TellsFirst (r ∷ (a ++ b)) fault
    tells_cons r a b JobSyntax h = h
    tells_cons r a b (JobField name) h = h
    tells_cons r a b (JobLimit name) h = h
    tells_cons r a b OutOfMemory h = h
tells_here [] b JobSyntax h = absurd h
tells_here [] b (JobField name) h = absurd (none-some _ h)
tells_here [] b (JobLimit name) h = absurd (none-some _ h)
tells_here [] b OutOfMemory h = h

-- nothing is wrong before
pub tells_past : (a b : List FieldRefusal) (fault : JobFault) → a ≡ [] → TellsFirst b fault → TellsFirst (a ++ b) fault
tells_past a b fault none h = rw none h

-- the sixth of fields is wrong
pub tells_sixth : (a b c d e f n : List FieldRefusal) (fault : JobFault) → a ≡ [] → b ≡ [] → c ≡ [] → d ≡ [] → e ≡ [] → TellsFirst f fault
    → TellsFirst ((a ++ (b ++ (c ++ (d ++ (e ++ (f ++ [])))))) ++ n) fault
tells_sixth a b c d e f n fault na nb nc nd ne h =
    tells_here (a ++ (b ++ (c ++ (d ++ (e ++ (f ++ [])))))) n fault (
    tells_past a _ fault na (tells_past b _ fault nb (tells_past c _ fault nc (tells_past d _ fault nd (tells_past e _ fault ne (tells_here f [] fault h))))))

-- the sixth of fields is wrong, of which more follow
pub tells_sixth_of : (a b c d e f rest n : List FieldRefusal) (fault : JobFault) → a ≡ [] → b ≡ [] → c ≡ [] → d ≡ [] → e ≡ [] → TellsFirst f fault
    → TellsFirst ((a ++ (b ++ (c ++ (d ++ (e ++ (f ++ rest)))))) ++ n) fault
tells_sixth_of a b c d e f rest n fault na nb nc nd ne h =
    tells_here (a ++ (b ++ (c ++ (d ++ (e ++ (f ++ rest)))))) n fault (
    tells_past a _ fault na (tells_past b _ fault nb (tells_past c _ fault nc (tells_past d _ fault nd (tells_past e _ fault ne (tells_here f rest fault h))))))

-- the seventh of fields is wrong, of which more follow
pub tells_seventh_of : (a b c d e f g rest n : List FieldRefusal) (fault : JobFault) → a ≡ [] → b ≡ [] → c ≡ [] → d ≡ [] → e ≡ [] → f ≡ [] → TellsFirst g fault
    → TellsFirst ((a ++ (b ++ (c ++ (d ++ (e ++ (f ++ (g ++ rest))))))) ++ n) fault
tells_seventh_of a b c d e f g rest n fault na nb nc nd ne nf h =
    tells_here (a ++ (b ++ (c ++ (d ++ (e ++ (f ++ (g ++ rest))))))) n fault (tells_past a _ fault na (tells_past b _ fault nb (tells_past c _ fault nc
    (tells_past d _ fault nd (tells_past e _ fault ne (tells_past f _ fault nf (tells_here g rest fault h)))))))

-- the eighth of fields is wrong
pub tells_eighth : (a b c d e f g h n : List FieldRefusal) (fault : JobFault) → a ≡ [] → b ≡ [] → c ≡ [] → d ≡ [] → e ≡ [] → f ≡ [] → g ≡ [] → TellsFirst h fault
    → TellsFirst ((a ++ (b ++ (c ++ (d ++ (e ++ (f ++ (g ++ (h ++ [])))))))) ++ n) fault
tells_eighth a b c d e f g h n fault na nb nc nd ne nf ng tells =
    tells_here (a ++ (b ++ (c ++ (d ++ (e ++ (f ++ (g ++ (h ++ [])))))))) n fault (tells_past a _ fault na (tells_past b _ fault nb (tells_past c _ fault nc
    (tells_past d _ fault nd (tells_past e _ fault ne (tells_past f _ fault nf (tells_past g _ fault ng (tells_here h [] fault tells))))))))

-- eight fields are right, and a name is wrong
pub tells_name_behind_eight : (a b c d e f g h n : List FieldRefusal) (fault : JobFault) → a ≡ [] → b ≡ [] → c ≡ [] → d ≡ [] → e ≡ [] → f ≡ [] → g ≡ [] → h ≡ []
    → TellsFirst n fault → TellsFirst ((a ++ (b ++ (c ++ (d ++ (e ++ (f ++ (g ++ (h ++ [])))))))) ++ n) fault
tells_name_behind_eight a b c d e f g h n fault na nb nc nd ne nf ng nh tells =
    let none : a ++ (b ++ (c ++ (d ++ (e ++ (f ++ (g ++ (h ++ []))))))) ≡ [] = rw (na, nb, nc, nd, ne, nf, ng, nh) refl in
    tells_past _ n fault none tells

-- the fields are right, and a name is wrong
pub tells_name : (a b c d e f n : List FieldRefusal) (fault : JobFault) → a ≡ [] → b ≡ [] → c ≡ [] → d ≡ [] → e ≡ [] → f ≡ [] → TellsFirst n fault
    → TellsFirst ((a ++ (b ++ (c ++ (d ++ (e ++ (f ++ [])))))) ++ n) fault
tells_name a b c d e f n fault na nb nc nd ne nf h =
    let none : a ++ (b ++ (c ++ (d ++ (e ++ (f ++ []))))) ≡ [] = rw (na, nb, nc, nd, ne, nf) refl in
    tells_past _ n fault none h

-- the fourth of fields is wrong
pub tells_fourth : (a b c d rest n : List FieldRefusal) (fault : JobFault) → a ≡ [] → b ≡ [] → c ≡ [] → TellsFirst d fault
    → TellsFirst ((a ++ (b ++ (c ++ (d ++ rest)))) ++ n) fault
tells_fourth a b c d rest n fault na nb nc h =
    tells_here (a ++ (b ++ (c ++ (d ++ rest)))) n fault (tells_past a _ fault na (tells_past b _ fault nb (tells_past c _ fault nc (tells_here d rest fault h))))

-- the fifth of fields is wrong
pub tells_fifth : (a b c d e rest n : List FieldRefusal) (fault : JobFault) → a ≡ [] → b ≡ [] → c ≡ [] → d ≡ [] → TellsFirst e fault
    → TellsFirst ((a ++ (b ++ (c ++ (d ++ (e ++ rest))))) ++ n) fault
tells_fifth a b c d e rest n fault na nb nc nd h =
    tells_here (a ++ (b ++ (c ++ (d ++ (e ++ rest))))) n fault (
    tells_past a _ fault na (tells_past b _ fault nb (tells_past c _ fault nc (tells_past d _ fault nd (tells_here e rest fault h)))))

-- nothing is wrong with six fields and the names, and something behind
pub tells_behind : (a b c d e f n p : List FieldRefusal) (fault : JobFault) → a ≡ [] → b ≡ [] → c ≡ [] → d ≡ [] → e ≡ [] → f ≡ [] → n ≡ [] → TellsFirst p fault
    → TellsFirst (((a ++ (b ++ (c ++ (d ++ (e ++ (f ++ [])))))) ++ n) ++ p) fault
tells_behind a b c d e f n p fault na nb nc nd ne nf nn h =
    let none : (a ++ (b ++ (c ++ (d ++ (e ++ (f ++ [])))))) ++ n ≡ [] = rw (na, nb, nc, nd, ne, nf, nn) refl in
    tells_past _ p fault none h
