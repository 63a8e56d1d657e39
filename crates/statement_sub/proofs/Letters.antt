-- A type has one letter or two.
use Rattle.laws.proofs.{◌≤◌, lit≤, length}
use Rattle.forest.specs.{Forest, letters_of}

pub letters_few : (f : Forest) → length (letters_of f) ≤ 2
unfolding letters_of
letters_few Forest.Bare = lit≤ tt
letters_few (Forest.Radiata region) = lit≤ tt
letters_few Forest.DouglasFir = lit≤ tt
letters_few Forest.ExoticSoftwoods = lit≤ tt
letters_few Forest.ExoticHardwoods = lit≤ tt
letters_few Forest.Indigenous = lit≤ tt
