-- What each of the code's profiles allows, by the paper.
use Rattle.paper.specs.Profiles as paper
use Rattle.profiles.specs.declared.Profile.{Profile}
use Rattle.profiles.specs.declared.Profile.TheVariants as P

abbrev pub profile_of : Profile → paper.Profile
profile_of P.PlainCoach = paper.plain_coach
profile_of P.DrivingTrailer = paper.driving_trailer
